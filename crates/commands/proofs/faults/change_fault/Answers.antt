-- `commands::faults::change_fault` meets its contract, by the command's name.
use Rattle.commands.proofs.faults.change_fault.Goals as goal

pub returns-in-Build : goal.returns-in-Build
returns-in-Build c = rw c.in-Build.is c.build_fault.ensures

pub returns-in-Post : goal.returns-in-Post
returns-in-Post c = rw c.in-Post.is c.readings_fault.ensures

pub returns-in-Reanalyse : goal.returns-in-Reanalyse
returns-in-Reanalyse c = rw c.in-Reanalyse.is c.readings_fault-in-Reanalyse.ensures

pub returns-in-Correct : goal.returns-in-Correct
returns-in-Correct c = rw c.in-Correct.is c.end_fault.ensures

pub returns-in-Renew : goal.returns-in-Renew
returns-in-Renew c = rw c.in-Renew.is c.end_fault-in-Renew.ensures

pub returns-in-Read : goal.returns-in-Read
returns-in-Read c = rw c.in-Read.is c.read_fault.ensures

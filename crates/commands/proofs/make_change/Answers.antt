-- `commands::make_change` meets its contract, by the command's name.
use Rattle.commands.proofs.make_change.Goals as goal

pub returns-in-Build : goal.returns-in-Build
returns-in-Build c = rw c.in-Build.is c.build.ensures

pub returns-in-Post : goal.returns-in-Post
returns-in-Post c = rw c.in-Post.is c.post.ensures

pub returns-in-Reanalyse : goal.returns-in-Reanalyse
returns-in-Reanalyse c = rw c.in-Reanalyse.is c.reanalyse.ensures

pub returns-in-Correct : goal.returns-in-Correct
returns-in-Correct c = rw c.in-Correct.is c.correct.ensures

pub returns-in-Renew : goal.returns-in-Renew
returns-in-Renew c = rw c.in-Renew.is c.renew.ensures

pub returns-in-Read : goal.returns-in-Read
returns-in-Read c = rw c.in-Read.is c.read.ensures

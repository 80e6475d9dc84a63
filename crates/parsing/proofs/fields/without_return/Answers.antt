-- `parsing::fields::without_return` meets its contract.
use native.Mathlib.Omega.{arith}
use Rattle.parsing.proofs.LineEnd.{no_bytes, return_left_out, no_return}
use Rattle.parsing.proofs.fields.without_return.Goals as goal

pub returns-in-13 : goal.returns-in-13
returns-in-13 c = return_left_out _ c.in-13.len_at_least (omega arith)

pub returns-in_default : goal.returns-in_default
returns-in_default c = no_bytes _ (omega arith)

pub returns-in_default-2 : goal.returns-in_default-2
returns-in_default-2 c = no_return _ c.in_default.len_at_least (λ e. omega arith)

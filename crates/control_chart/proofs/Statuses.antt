-- The status of a command on a file, from what the program has of its outcome and its text (`of_ending`).
use mathlib.Core.Path.{sym}
use mathlib.Core.List.{List}
use Prim.Native.Nat.{ℕ, ◌≤◌}
use lib.ListN.{length, take}
use Rattle.commands.specs.Reply.{answer_most}
use Rattle.rules.proofs.Buffer.{front_is}
use Rattle.outcomes.specs.declared.OnFile.{OnFile}
use Rattle.outcomes.specs.OnFile.{Ending, Ends}
use Rattle.control_chart.specs.Status.{StatusAfter, StatusOfEnding}

-- the text is at the front of the buffer, which has room for every text
pub of_ending : {e : Ending} {before after out out' : List ℕ} {r : OnFile} {status : ℕ} → Ends e before after out out' r
    → answer_most ≤ length out → StatusAfter r.outcome (take r.size out') status → StatusOfEnding e status
of_ending ends room after = rw (sym ends.outcome, sym (front_is (ends.whole room))) after

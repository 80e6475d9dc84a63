-- `control_chart::input::after_line_feed` meets its contract.
use borrow.Author.Tests.{lt-ltb, le-ltb}
use Rattle.control_chart.proofs.input.after_line_feed.Goals as goal

pub returns-then-end-bytes : goal.returns-then-end-bytes
returns-then-end-bytes c = rw (lt-ltb _ _ c.if-end-bytes.true)

pub returns-else-end-bytes : goal.returns-else-end-bytes
returns-else-end-bytes c = rw (le-ltb _ _ c.if-end-bytes.false)

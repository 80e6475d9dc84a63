-- `chart::rejection::round` meets its contract.
use Rattle.std.proofs.Common.{rules, ◌≡◌, length, take}
use Rattle.chart.proofs.Rounds.{marked_removed, round_is}
use Rattle.chart.proofs.rejection.round.Goals as goal

pub less_marked-requires : goal.less_marked-requires
less_marked-requires c =
    let a = c.args in
    let marks = c.marks_beyond-marks in
    let count : a.n ≡ length (take a.n a.words) = search (rules, c.requires.0) in
    let removed = marked_removed a.kind a.n (take a.n a.words) a.sums marks.result count marks.ensures in
    record { few = c.requires.0; removable = rw removed c.requires.1.removable }

pub returns : goal.returns
returns c =
    let a = c.args in
    let marks = c.marks_beyond-marks in
    let count : a.n ≡ length (take a.n a.words) = search (rules, c.requires.0) in
    round_is a.kind a.n (take a.n a.words) a.sums marks.result count marks.ensures _ c.without_marked.ensures c.less_marked.ensures

-- `chart::soundness::is_sound` meets its contract.
use mathlib.Core.Path.{◌≡◌}
use Rattle.rules.specs.Limits.{limits_of}
use Rattle.rules.specs.State.{limits_for}
use Rattle.rules.specs.Soundness.{sound}
use Rattle.limits.specs.Sums.{limits_say}
use Rattle.chart.proofs.soundness.is_sound.Goals as goal

pub returns : goal.returns
unfolding sound limits_for
returns c =
    let own : let a = c.args in limits_say c.limits_of-l.result ≡ limits_of a.kind a.base.now = c.limits_of-l.ensures.same in
    rw (c.words_sound.ensures, c.limits_hold.ensures, c.status_fits.ensures, own)

-- `words::are_readings` meets its contract.
use mir.Facts.{to_z-of_z}
use Rattle.rules.specs.Kind.{ignores_third}
use Rattle.rules.specs.Word.{are_readings}
use Rattle.words.proofs.are_readings.Goals as goal

pub returns : goal.returns
unfolding are_readings ignores_third
returns c =
    let fits = c.ranges in
    rw (
      c.is_reading.ensures,
      c.is_reading-2.ensures,
      c.is_reading-3.ensures,
      to_z-of_z fits.a,
      to_z-of_z fits.b,
      to_z-of_z fits.c,
    )

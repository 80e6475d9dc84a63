-- `chart::building::padded` meets its contract.
use Rattle.chart.proofs.Places.{pad-front}
use Rattle.chart.proofs.building.padded.Goals as goal

pub returns : goal.returns
returns c = pad-front _ _ _ c.copy_from_slice.ensures.after

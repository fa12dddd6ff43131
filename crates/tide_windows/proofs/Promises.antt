-- The promises of specs/Promises.antt, kept.
use Rattle.tide_windows.specs.Promises.{OpenMeans, WindowMeans}
use Rattle.tide_windows.proofs.OpenTests.{open_rule, open_test, window_rule, window_test}

pub open_means : OpenMeans
open_means ws t k = (open_rule ws t k, open_test ws t k)

pub window_means : WindowMeans
window_means m w = (window_rule m w, window_test m w)

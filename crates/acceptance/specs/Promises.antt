-- What is promised of accepted network files; proofs/Promises.antt keeps it.
use Rattle.std.specs.Prelude.{◌≡◌, List, ℕ}
use Rattle.prelude.specs.Lists.{Every}
use Rattle.arc_records.specs.Arcs.{Arc}
use Rattle.network.specs.Question.{Setting, Admissible}
use Rattle.format.specs.Files.{setting_in, network_file, arcs_in}
use Rattle.format.specs.Promises.{Byte}
use Rattle.acceptance.specs.Acceptance.{AcceptedFile}

-- The file is accepted, and says this setting and these arcs.
pub record Says (st : Setting) (net : List Arc) (file : List ℕ) : Type 0 where
  pub bytes : Every Byte file
  pub accepted : AcceptedFile file
  pub setting_is : setting_in file ≡ st
  pub arcs_are : arcs_in file ≡ net

-- Whatever may be read can be written: the bytes of its network file are accepted and say just that.
abbrev pub WrittenAccepted : Type 0
WrittenAccepted = (st : Setting) (net : List Arc) → Admissible st net → Says st net (network_file st net)

-- An accepted file says what may be read.
abbrev pub AcceptedMeans : Type 0
AcceptedMeans = (file : List ℕ) → AcceptedFile file → Admissible (setting_in file) (arcs_in file)

-- How long an annotation is: a room of 32768 bytes is large enough for that of every accepted file, so check 20 refuses none.
use mathlib.Core.Path.{◌≡◌, ap, ◌∙◌}
use mathlib.Core.Bool.{Bool}
use mathlib.Core.List.{List, [], ◌∷◌}
use Prim.Native.Nat.{ℕ, ◌≤◌}
use native.Mathlib.Omega.{arith}
use lib.Dec.{leb}
use borrow.Author.Tests.{le-leb}
use Rattle.prelude.specs.Checks.{◌unless◌, settle}
use Rattle.prelude.specs.Choice.{pick}
use Rattle.prelude.proofs.Settle.{settle_append, settle_when}
use Rattle.format.specs.Files.{count_in, arc_in}
use Rattle.prelude.proofs.Lists.{list_to_length}
use Rattle.acceptance.specs.Acceptance.{acceptance_checks, AcceptedFile}
use Rattle.acceptance.proofs.AcceptedFiles.{file_opened, file_few}
use Rattle.format.specs.Replies.{wrote, declined}
use Rattle.annotation_writing.specs.Requests.{size_for}
use Rattle.helper.specs.Helper.{annotated}

-- at most 8 + 4 * 255 + 6 * 4096 bytes
small : (net : List ℕ) → AcceptedFile net → size_for net ≤ 25604
small net h = omega (arith, (file_opened net h).sized.at_most, file_few net h, list_to_length (count_in net) (arc_in net))

pub in_room : (net : List ℕ) → annotated net 32768 ≡ settle declined (acceptance_checks net) (wrote (size_for net))
in_room net =
    settle_append declined (acceptance_checks net) (20 unless leb (size_for net) 32768 ∷ []) (wrote (size_for net))
    ∙ settle_when declined (acceptance_checks net) (pick (leb (size_for net) 32768) (wrote (size_for net)) (declined 20)) (wrote (size_for net))
    (λ h. ap (λ (b : Bool). pick b (wrote (size_for net)) (declined 20)) (le-leb (size_for net) 32768 (omega (arith, small net h))))

use mathlib.Core.Path.{◌≡◌, refl, ◌∙◌, subst}
use mathlib.Core.List.{List, [], ◌∷◌}
use Prim.Native.Nat.{ℕ, ◌≤◌, ◌<◌}
use lib.Dec.{leb}
use borrow.Author.Tests.{le-leb, lt-leb}
use Rattle.prelude.specs.Checks.{Check, ◌unless◌, first_broken}
use Rattle.prelude.proofs.Settle.{part_refused, part_passed}
use Rattle.refusals.specs.Refusals.{why}
use Rattle.refusals.proofs.Exits.{exit_as, number_not_0}
use Rattle.acceptance.specs.Acceptance.{acceptance_checks}
use Rattle.acceptance.proofs.AcceptedFiles.{acceptance_numbered}
use Rattle.annotation_writing.specs.Requests.{size_for, annotate_checks}
use Rattle.annotation_writing.proofs.annotate_check.Goals as goal

-- k was found of the checks of the file, which 20 follows
module _ (net : List ℕ) (room k : ℕ) (found : k ≡ first_broken (acceptance_checks net)) where
  abbrev last : List Check
  last = 20 unless leb (size_for net) room ∷ []

  at-file : (k ≡ 0 → ⊥) → k ≡ first_broken (annotate_checks net room)
  at-file = part_refused (λ i. i) (acceptance_checks net) last 0 (acceptance_numbered net) k found

  module _ (fine : k ≡ 0) (size : ℕ) (is : size ≡ size_for net) where
    at_room : room < size → 20 ≡ first_broken (annotate_checks net room)
    at_room h =
        part_passed (λ i. i) (acceptance_checks net) last 0 (acceptance_numbered net) k found fine 20
        (rw (lt-leb (size_for net) room (subst (λ (k : ℕ). room < k) is h)))

    at_end : size ≤ room → 0 ≡ first_broken (annotate_checks net room)
    at_end h =
        part_passed (λ i. i) (acceptance_checks net) last 0 (acceptance_numbered net) k found fine 0
        (rw (le-leb (size_for net) room (subst (λ (k : ℕ). k ≤ room) is h)))

pub returns-in_err-acceptance_check : goal.returns-in_err-acceptance_check
returns-in_err-acceptance_check c =
    exit_as why _ _ c.from_residual.ensures.1 ∙ at-file c.args.net.now c.args.room _ c.in_err-acceptance_check.ensures (number_not_0 _)

pub returns-then-room-size : goal.returns-then-room-size
returns-then-room-size c =
    at_room c.args.net.now c.args.room 0 c.in_ok-acceptance_check.ensures refl c.annotation_size-size.result c.annotation_size-size.ensures c.if-room-size.true

pub returns : goal.returns
returns c =
    at_end c.args.net.now c.args.room 0 c.in_ok-acceptance_check.ensures refl c.annotation_size-size.result c.annotation_size-size.ensures c.if-room-size.false

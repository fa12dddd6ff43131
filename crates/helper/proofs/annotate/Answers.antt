use mathlib.Core.Path.{◌≡◌, refl, sym, ◌∙◌, ap}
use mathlib.Core.List.{List, [], ◌∷◌, append-nil}
use Prim.Native.Nat.{ℕ, ◌≤◌}
use lib.Dec.{leb, leb→le}
use lib.ListN.{length}
use Rattle.prelude.specs.Checks.{Check, ◌unless◌, settle, first_broken, Hold}
use Rattle.prelude.proofs.Settle.{settled, Numbered, numbered_append, none_broken, hold_left, hold_right, part_refused}
use Rattle.acceptance.specs.Acceptance.{acceptance_checks, AcceptedFile}
use Rattle.acceptance.proofs.AcceptedFiles.{acceptance_numbered}
use Rattle.refusals.proofs.Exits.{exit_as, number_not_0}
use Rattle.format.specs.Replies.{writer_said, wrote, declined}
use Rattle.annotation_writing.specs.Requests.{size_for, annotate_checks}
use Rattle.helper.specs.Helper.{annotated}
use Rattle.helper.proofs.annotate.Goals as goal

module _ (net : List ℕ) (room why : ℕ) (found : why ≡ first_broken (annotate_checks net room)) where
  abbrev last : List Check
  last = 20 unless leb (size_for net) room ∷ []

  numbered : Numbered (annotate_checks net room)
  numbered = numbered_append (acceptance_checks net) last (acceptance_numbered net) (refl, tt)

  at-checks : (why ≡ 0 → ⊥) → declined why ≡ annotated net room
  at-checks h =
      part_refused declined (annotate_checks net room) [] (wrote (size_for net)) numbered why found h
      ∙ ap (λ (cs : List Check). settle declined cs (wrote (size_for net))) (append-nil (annotate_checks net room))

  module _ (fine : why ≡ 0) where
    held : Hold (annotate_checks net room)
    held = none_broken (annotate_checks net room) numbered (sym found ∙ fine)

    taken : AcceptedFile net × (size_for net ≤ room)
    taken = (hold_left (acceptance_checks net) last held, leb→le (size_for net) room (hold_right (acceptance_checks net) last held).0)

    at_end : {size : ℕ} → size ≡ size_for net → wrote size ≡ annotated net room
    at_end e = ap wrote e ∙ sym (settled declined (annotate_checks net room) (wrote (size_for net)) held)

pub returns-in_err-annotate_check : goal.returns-in_err-annotate_check
returns-in_err-annotate_check c =
    let said = exit_as writer_said _ _ c.from_residual.ensures.1 in
    (said ∙ at-checks c.args.net.now (length c.args.buffer.now) _ c.in_err-annotate_check.ensures (number_not_0 _), rw said refl)

pub write_annotation-requires : goal.write_annotation-requires
write_annotation-requires c =
    let r = taken c.args.net.now (length c.args.buffer.now) 0 c.in_ok-annotate_check.ensures refl in
    record { accepted_file = r.0; net_in_bounds = r.1 }

pub returns : goal.returns
returns c = (
  at_end c.args.net.now (length c.args.buffer.now) 0 c.in_ok-annotate_check.ensures refl c.annotation_size.ensures,
  c.write_annotation.ensures,
)

pub annotation_size-requires : goal.annotation_size-requires
annotation_size-requires c = tt

pub shape_of-buffer : goal.shape_of-buffer
shape_of-buffer c = c.write_annotation.auto.buffer

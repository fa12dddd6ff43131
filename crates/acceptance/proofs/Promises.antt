-- The promises of specs/Promises.antt, kept.
use mathlib.Core.Path.{◌≡◌, sym, subst}
use mathlib.Core.List.{List}
use Prim.Native.Nat.{ℕ}
use native.Mathlib.Omega.{arith}
use Rattle.prelude.specs.Checks.{Hold}
use Rattle.prelude.proofs.Lists.{every_map}
use Rattle.arc_records.specs.Arcs.{Arc}
use Rattle.network.specs.Question.{Setting, Opened, Allowed, Admissible}
use Rattle.network.specs.Tests.{opening_checks, reading_all}
use Rattle.network.proofs.Allowed.{opened_small, opening_test, reading_test}
use Rattle.format.specs.Files.{setting_in, network_file, arcs_in}
use Rattle.format.specs.Promises.{ArcFits, NetworkRead}
use Rattle.format.proofs.Promises.{network_round_trip}
use Rattle.acceptance.specs.Promises.{WrittenAccepted, AcceptedMeans}
use Rattle.acceptance.proofs.AcceptedFiles.{accepted, file_opened, file_allowed, file_few}

-- ---- what may be read fits its fields

pub arc_fits : (st : Setting) → Opened st → (a : Arc) → Allowed st a → ArcFits a
arc_fits st o a h = record {
  tail = omega (arith, o.sized.at_most, h.joins.tail_below);
  head = omega (arith, o.sized.at_most, h.joins.head_below);
  weight = omega (arith, h.weight_within);
}

written_read : (st : Setting) (net : List Arc) → Admissible st net → NetworkRead st net (network_file st net)
written_read st net r =
    let o = r.opened in
    let small = opened_small st o in
    network_round_trip st net
    (record {
      question = omega (arith, small.0);
      n = omega (arith, small.1);
      s = omega (arith, small.2);
      t = omega (arith, small.3);
    })
    (omega (arith, r.few)) (every_map (arc_fits st o) net r.allowed)

-- ---- kept

pub written_accepted : WrittenAccepted
written_accepted st net r =
    let file = network_file st net in
    let back = written_read st net r in
    let same = back.setting_back in
    record {
      bytes = back.bytes;
      accepted = accepted file back.passes (subst (λ (x : Setting). Hold (opening_checks x)) (sym same) (opening_test st r.opened))
          (readings file same back.arcs_back (reading_test st 0 net r.allowed (omega (arith, r.few))));
      setting_is = same;
      arcs_are = back.arcs_back;
    }
  where
    readings : (file : List ℕ) → setting_in file ≡ st → arcs_in file ≡ net → Hold (reading_all st 0 net) → Hold (reading_all (setting_in file) 0 (arcs_in file))
    readings file p q h = rw (p, q) h

pub accepted_means : AcceptedMeans
accepted_means file h = record { opened = file_opened file h; allowed = file_allowed file h; few = file_few file h }

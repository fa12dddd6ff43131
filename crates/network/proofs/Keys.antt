-- The keys of arcs: below p, different for different arcs, and so for arcs that reading accepts.
use mathlib.Core.Path.{◌≡◌}
use mathlib.Core.List.{List, map}
use Prim.Native.Nat.{◌<◌}
use native.Mathlib.Omega.{arith}
use Rattle.prelude.specs.Lists.{Every, Perm}
use Rattle.prelude.proofs.Lists.{every_map, image_every}
use Rattle.prelude.proofs.Permutations.{perm_unmap}
use Rattle.field.specs.Field.{p}
use Rattle.arc_records.specs.Arcs.{Arc}
use Rattle.network.specs.Network.{key}
use Rattle.network.specs.Question.{Setting, Opened, Allowed}
use Rattle.network.specs.Promises.{Keyed, KeysBelow, KeysDiffer}

pub keys_below : KeysBelow
keys_below e h = omega arith

pub keys_differ : KeysDiffer
keys_differ d e h k q = λ i. record { tail = tails i; head = heads i; weight = weights i }
  where
    tails : d.tail ≡ e.tail
    tails = omega arith

    heads : d.head ≡ e.head
    heads = omega arith

    weights : d.weight ≡ e.weight
    weights = omega arith

module _ (st : Setting) (o : Opened st) where
  keyed : (e : Arc) → Allowed st e → Keyed e
  keyed e h = record {
    tail_below = omega (arith, o.sized.at_most, h.joins.tail_below);
    head_below = omega (arith, o.sized.at_most, h.joins.head_below);
    weight_within = h.weight_within;
  }

  pub arc_keys_below : (net : List Arc) → Every (Allowed st) net → Every (λ k. k < p) (map key net)
  arc_keys_below net h = image_every key (λ k. k < p) net (every_map (λ e (a : Allowed st e). keys_below e (keyed e a)) net h)

  same_key : (d e : Arc) → Allowed st d → Allowed st e → key d ≡ key e → d ≡ e
  same_key d e hd he q = keys_differ d e (keyed d hd) (keyed e he) q

  pub keys_tell : (net new : List Arc) → Every (Allowed st) net → Every (Allowed st) new → Perm (map key net) (map key new) → Perm net new
  keys_tell net new h k d = perm_unmap key (Allowed st) same_key net new h k d

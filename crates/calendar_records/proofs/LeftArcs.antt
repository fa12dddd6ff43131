-- What is left of a list of arcs, where some of them are closed: how many, of what kind, of a list in two parts, and where all are open.
use mathlib.Core.Path.{◌≡◌, refl, sym, ◌∙◌, ap, ap₂}
use mathlib.Core.Bool.{Bool, true, false}
use mathlib.Core.List.{List, [], ◌∷◌, ◌++◌, append_assoc, append-nil}
use Prim.Native.Nat.{ℕ, suc, ◌+◌, ◌≤◌}
use native.Mathlib.Nat.{add-zero, zero-add}
use native.Mathlib.Omega.{arith}
use lib.ListN.{length, length-append}
use Rattle.prelude.specs.Choice.{pick}
use Rattle.prelude.specs.Lists.{Every, list_to}
use Rattle.prelude.proofs.Lists.{every_append, list_to_length}
use Rattle.arc_records.specs.Arcs.{Arc}
use Rattle.network.specs.Question.{Question, shortest_path, maximum_flow, assignment, acyclicity, unasked, Setting, asks, SidesFor, Allowed}
use Rattle.calendar_records.specs.MinuteNetwork.{emptied, closed_for, left_for, left_from, open_from}

-- ---- what is left of one arc

closed_length : (q : Question) (e : Arc) → length (closed_for q e) ≤ 1
closed_length shortest_path e = omega arith
closed_length maximum_flow e = omega arith
closed_length assignment e = omega arith
closed_length acyclicity e = omega arith
closed_length unasked e = omega arith

pub left_one_length : (q : Question) (b : Bool) (e : Arc) → length (left_for q b e) ≤ 1
left_one_length q true e = omega arith
left_one_length q false e = closed_length q e

-- an arc with the capacity 0 has the same ends
emptied_sides : (q : Question) (st : Setting) (e : Arc) → SidesFor q st e → SidesFor q st (emptied e)
emptied_sides shortest_path st e h = tt
emptied_sides maximum_flow st e h = tt
emptied_sides assignment st e h = record { from_pump = h.from_pump; to_site = h.to_site }
emptied_sides acyclicity st e h = tt
emptied_sides unasked st e h = absurd h

emptied_allowed : (st : Setting) (e : Arc) → Allowed st e → Allowed st (emptied e)
emptied_allowed st e h =
    let j = h.joins in
    record {
      joins = record { tail_below = j.tail_below; head_below = j.head_below; sides = emptied_sides (asks st) st e j.sides };
      weight_within = omega arith;
    }

closed_allowed : (st : Setting) (q : Question) (e : Arc) → Allowed st e → Every (Allowed st) (closed_for q e)
closed_allowed st shortest_path e h = tt
closed_allowed st maximum_flow e h = (emptied_allowed st e h, tt)
closed_allowed st assignment e h = tt
closed_allowed st acyclicity e h = tt
closed_allowed st unasked e h = tt

left_one_allowed : (st : Setting) (q : Question) (b : Bool) (e : Arc) → Allowed st e → Every (Allowed st) (left_for q b e)
left_one_allowed st q true e h = (h, tt)
left_one_allowed st q false e h = closed_allowed st q e h

-- ---- what is left of a list

module _ (q : Question) (opened : ℕ → Bool) where
  pub left_length : (k : ℕ) (net : List Arc) → length (left_from q opened k net) ≤ length net
  unfolding left_from
  left_length k [] = omega arith
  left_length k (e ∷ net) =
      rw length-append (omega (arith, left_one_length q (opened k) e, left_length (suc k) net))

  pub left_allowed : (st : Setting) (k : ℕ) (net : List Arc) → Every (Allowed st) net → Every (Allowed st) (left_from q opened k net)
  unfolding left_from
  left_allowed st k [] h = tt
  left_allowed st k (e ∷ net) h =
      every_append (Allowed st) (left_for q (opened k) e) (left_from q opened (suc k) net) (left_one_allowed st q (opened k) e h.0)
      (left_allowed st (suc k) net h.1)

  pub left_append : (k : ℕ) (xs ys : List Arc) → left_from q opened k (xs ++ ys) ≡ left_from q opened k xs ++ left_from q opened (k + length xs) ys
  unfolding left_from
  left_append k [] ys = ap (λ (j : ℕ). left_from q opened j ys) (sym (add-zero k))
  left_append k (e ∷ xs) ys =
      let i : suc k + length xs ≡ k + suc (length xs) = omega arith in
      ap (λ (l : List Arc). left_for q (opened k) e ++ l) (left_append (suc k) xs ys ∙ ap (λ (j : ℕ). left_from q opened (suc k) xs ++ left_from q opened j ys) i)
      ∙ sym (append_assoc (left_for q (opened k) e) (left_from q opened (suc k) xs) (left_from q opened (k + suc (length xs)) ys))

  -- one arc more of those that are numbered from 0 on, as a loop over the records of a file takes them
  pub left_one_more : (g : ℕ → Arc) (k : ℕ) → left_from q opened 0 (list_to (suc k) g) ≡ left_from q opened 0 (list_to k g) ++ left_for q (opened k) (g k)
  unfolding left_from list_to
  left_one_more g k =
      left_append 0 (list_to k g) (g k ∷ [])
      ∙ ap (λ (l : List Arc). left_from q opened 0 (list_to k g) ++ l)
      (append-nil (left_for q (opened (0 + length (list_to k g))) (g k)) ∙ ap (λ (j : ℕ). left_for q (opened j) (g k)) (zero-add (length (list_to k g)) ∙ list_to_length k g))

  -- where all are open it is the list itself
  pub left_all : ((k : ℕ) → opened k ≡ true) → (k : ℕ) (net : List Arc) → left_from q opened k net ≡ net
  unfolding left_from
  left_all h k [] = refl
  left_all h k (e ∷ net) = ap₂ (λ (b : Bool) (l : List Arc). left_for q b e ++ l) (h k) (left_all h (suc k) net)

  -- where nothing is left of a closed arc, it is the open ones alone
  pub left_open : ((e : Arc) → closed_for q e ≡ []) → (k : ℕ) (net : List Arc) → left_from q opened k net ≡ open_from opened k net
  unfolding left_from open_from
  left_open h k [] = refl
  left_open h k (e ∷ net) = go (opened k) (left_from q opened (suc k) net) (open_from opened (suc k) net) (left_open h (suc k) net)
    where
      go : (b : Bool) (xs ys : List Arc) → xs ≡ ys → left_for q b e ++ xs ≡ pick b (e ∷ ys) ys
      go true xs ys same = ap (λ (l : List Arc). e ∷ l) same
      go false xs ys same = ap₂ ◌++◌ (h e) same

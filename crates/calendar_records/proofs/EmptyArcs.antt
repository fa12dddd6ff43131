-- An arc of the capacity 0 changes no balance: a maximum flow has the same value with such arcs and without them.
use mathlib.Core.Path.{refl}
use mathlib.Core.Logic.{◌↔◌}
use mathlib.Core.Bool.{Bool, true, false}
use mathlib.Core.List.{List, [], ◌∷◌, ◌++◌}
use Prim.Native.Nat.{ℕ, suc}
use Rattle.prelude.specs.Choice.{pick}
use Rattle.arc_records.specs.Arcs.{Arc}
use Rattle.network.specs.Question.{Question, shortest_path, maximum_flow, assignment, acyclicity, unasked, Setting, Answer, value, none, TrueFor}
use Rattle.network.proofs.IdleArcs.{SameButIdle, end, keep, first, empty_idle, same_maximum}
use Rattle.calendar_records.specs.MinuteNetwork.{emptied, left_for, left_from, open_from}
use Rattle.calendar_records.proofs.LeftArcs.{left_open}

-- The network of a minute is its open arcs and arcs of the capacity 0.
left_idle : (opened : ℕ → Bool) (k : ℕ) (net : List Arc) → SameButIdle (left_from maximum_flow opened k net) (open_from opened k net)
unfolding left_from open_from
left_idle opened k [] = end
left_idle opened k (e ∷ net) = go (opened k) (left_idle opened (suc k) net)
  where
    go : (b : Bool) {xs ys : List Arc} → SameButIdle ys xs → SameButIdle (left_for maximum_flow b e ++ ys) (pick b (e ∷ xs) xs)
    go true p = keep p
    go false p = first (empty_idle (emptied e) refl) p

-- What is left of the arcs and the open ones alone have the same true answer.
pub open_alone_for : (q : Question) (st : Setting) (opened : ℕ → Bool) (k : ℕ) (net : List Arc) (a : Answer)
    → TrueFor q st (left_from q opened k net) a ↔ TrueFor q st (open_from opened k net) a
open_alone_for shortest_path st opened k net a = rw (left_open shortest_path opened (λ e. refl) k net) (λ h. h, λ h. h)
open_alone_for maximum_flow st opened k net (value v) = same_maximum st (left_idle opened k net) v
open_alone_for maximum_flow st opened k net none = (λ h. h, λ h. h)
open_alone_for assignment st opened k net a = rw (left_open assignment opened (λ e. refl) k net) (λ h. h, λ h. h)
open_alone_for acyclicity st opened k net a = rw (left_open acyclicity opened (λ e. refl) k net) (λ h. h, λ h. h)
open_alone_for unasked st opened k net a = (λ h. h, λ h. h)

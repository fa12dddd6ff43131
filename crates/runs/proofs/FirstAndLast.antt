-- What is seen of a list of answers: the first that is not `accepted`, and the last.
use mathlib.Core.Path.{◌≡◌, refl, sym, ◌∙◌}
use mathlib.Core.Logic.{◌↔◌}
use mathlib.Core.Bool.{true, false}
use mathlib.Core.List.{List, [], ◌∷◌}
use Prim.Native.Nat.{ℕ}
use native.Mathlib.Omega.{arith}
use lib.Dec.{T}
use Rattle.prelude.specs.Checks.{Check, ◌unless◌, settle}
use Rattle.network.specs.Question.{Answer}
use Rattle.state.specs.Answers.{Said, accepted, gives, refused}
use Rattle.runs.specs.Exchange.{outcome, last}

pub no_answer : (k : ℕ) (a : Answer) → refused k ≡ gives a → ⊥
no_answer k a e = let z : ◌≡◌ {A = ℕ} 0 1 = cc in omega arith

-- ---- the first

pub outcome_alone : (a : Said) → outcome (a ∷ []) ≡ a
outcome_alone accepted = refl
outcome_alone (gives a) = refl
outcome_alone (refused k) = refl

-- one answer before the rest, where the same checks settle both
pub outcome_step : {A : Type 0} (rest : A → List Said) (g : ℕ → A) (cs : List Check) (v : A) → outcome (settle refused cs accepted ∷ rest (settle g cs v)) ≡ settle refused cs (outcome (rest v))
outcome_step rest g [] v = refl
outcome_step rest g ((k unless true) ∷ cs) v = outcome_step rest g cs v
outcome_step rest g ((k unless false) ∷ cs) v = refl

-- ---- the last

-- The answers end with a, or both they and a refuse.
pub data LastSays : List Said → Said → Type 0 where
  alone : {a : Said} → LastSays (a ∷ []) a
  refusing : {j k : ℕ} → LastSays (refused j ∷ []) (refused k)
  on : {b a : Said} {l : List Said} → LastSays l a → LastSays (b ∷ l) a

last_on : {l : List Said} {a : Said} (b : Said) → LastSays l a → last (b ∷ l) ≡ last l
last_on b alone = refl
last_on b refusing = refl
last_on b (on h) = refl

pub ends_gives : {l : List Said} {a : Said} → LastSays l a → (v : Answer) → (last l ≡ gives v) ↔ (a ≡ gives v)
ends_gives alone v = (λ d. d, λ d. d)
ends_gives (refusing {j} {k}) v = (λ d. absurd (no_answer j v d), λ d. absurd (no_answer k v d))
ends_gives (on {b} h) v = (λ d. (ends_gives h v).0 (sym (last_on b h) ∙ d), λ d. last_on b h ∙ (ends_gives h v).1 d)

-- each check that fails turns the rest into answers that end with a refusal
abbrev pub EachRefuses : {A : Type 0} → (A → List Said) → (ℕ → A) → List Check → Type 0
EachRefuses rest g [] = Unit {0}
EachRefuses rest g ((k unless ok) ∷ cs) = (¬ (T ok) → LastSays (rest (g k)) (refused k)) × EachRefuses rest g cs

pub ends_step :
    {A : Type 0} (rest new : A → List Said) (g : ℕ → A) (cs : List Check) (v : A)
    → EachRefuses rest g cs → LastSays (rest v) (outcome (new v))
    → LastSays (settle refused cs accepted ∷ rest (settle g cs v)) (outcome (settle refused cs accepted ∷ new (settle g cs v)))
ends_step rest new g [] v h e = on e
ends_step rest new g ((k unless true) ∷ cs) v h e = ends_step rest new g cs v h.1 e
ends_step rest new g ((k unless false) ∷ cs) v h e = on (h.0 (λ t. t))

-- The promises of specs/Promises.antt, kept: judging is an exchange whose steps the two files hold.
use mathlib.Core.Path.{◌≡◌, refl, sym, ◌∙◌, ap, subst}
use mathlib.Core.List.{List, [], ◌∷◌, ◌++◌, map, append-nil, append_assoc}
use mathlib.Core.Logic.{inl, inr}
use Prim.Native.Nat.{ℕ, suc, ◌≤◌}
use native.Mathlib.Omega.{arith}
use lib.IntN.{ℤ}
use lib.ListN.{length, length-map, length-append}
use Rattle.prelude.specs.Checks.{Check, settle, Hold}
use Rattle.prelude.specs.Lists.{Some, at}
use Rattle.prelude.proofs.Settle.{settled, settle_append, settle_map, settle_when, hold_append, hold_left, hold_right}
use Rattle.prelude.proofs.Lists.{every_map}
use Rattle.prelude.proofs.Permutations.{perm_length}
use Rattle.arc_records.specs.Arcs.{Arc}
use Rattle.network.specs.Network.{Load}
use Rattle.network.specs.Question.{Setting, Answer, value, none, TrueAnswer}
use Rattle.network.specs.Certificate.{claim_for}
use Rattle.network.specs.Tests.{opening_checks, reading_checks, reading_all, claim_number, claim_of, answer_of}
use Rattle.network.proofs.Promises.{certificates_sound}
use Rattle.points.specs.Points.{misleading_points}
use Rattle.points.specs.declared.Point.{Point}
use Rattle.points.proofs.Prints.{at_most→points}
use Rattle.format.specs.Files.{setting_in, n_in, arcs_in, claim_in, numbers_in, loads_in, annotation_file, network_layout, annotation_layout}
use Rattle.format.specs.Promises.{Byte}
use Rattle.format.proofs.Promises.{annotation_round_trip}
use Rattle.state.specs.Answers.{Said, accepted, gives, refused, said}
use Rattle.state.specs.State.{open_checks}
use Rattle.runs.specs.Run.{Step, read, end, claim, number, repeat, finish, step, run, session_after, run_from, list_from, list_read, Wrong, WrongAt, is_other}
use Rattle.runs.specs.AcceptedLists.{sums_at}
use Rattle.runs.specs.Exchange.{exchange, outcome, annotation_rules, final_rules, Readable}
use Rattle.runs.proofs.FirstAndLast.{no_answer}
use Rattle.runs.proofs.Meets.{gives_held}
use Rattle.runs.proofs.WrongAnswers.{wrong_held, other_wrong}
use Rattle.runs.proofs.Promises.{opening_answers, first_broken, certificates_pass, few_wrong}
use Rattle.runs.proofs.Verdict.{reading_broken}
use Rattle.session.specs.Steps.{opening}
use Rattle.session.specs.declared.Session.{Session}
use Rattle.judging_runs.specs.FileSteps.{steps_of_network, steps_in}
use Rattle.judging.specs.Judging.{numbers_for, loads_for, network_checks, annotation_checks, judged, and_then, JudgedWrong}
use Rattle.acceptance.proofs.AcceptedFiles.{layout_held, opening_held, reading_held, file_opened, file_allowed, file_few}
use Rattle.runs.proofs.Openings.{opens_rule, opens_held, without_point}
use Rattle.judging.specs.Promises.{JudgedBySteps, FewJudgedWrong, FewJudgedWrongCounted, OnlyAccepted, CertificatesJudged}

-- ---- the list read of an exchange

list_read_lem : (st : Setting) (l es : List Arc) (rest : List Step) → Hold (reading_all st (length l) es) → list_from st l (map read es ++ (end ∷ rest)) ≡ l ++ es
unfolding list_from reading_all
list_read_lem st l [] rest h = sym (append-nil l)
list_read_lem st l (e ∷ es) rest h =
    let one = hold_left (reading_checks st (length l) e) (reading_all st (suc (length l)) es) h in
    let more = hold_right (reading_checks st (length l) e) (reading_all st (suc (length l)) es) h in
    ap (λ (k : List Arc). list_from st k (map read es ++ (end ∷ rest))) (settled (λ why. l) (reading_checks st (length l) e) (l ++ e ∷ []) one)
    ∙ list_read_lem st (l ++ e ∷ []) es rest (subst (λ (n : ℕ). Hold (reading_all st n es)) (omega (arith, length-append l (e ∷ []))) more)
    ∙ append_assoc l (e ∷ []) es

-- what comes out is what some step said
said_by : (P : Said → Type 0) (l : List Said) (a : Answer) → outcome l ≡ gives a → P (gives a) → Some P l
said_by P [] a e h = let z : ◌≡◌ {A = ℕ} 0 1 = cc in absurd (omega arith)
said_by P (accepted ∷ l) a e h = inr (said_by P l a e h)
said_by P (gives b ∷ l) a e h = inl (subst P (sym e) h)
said_by P (refused k ∷ l) a e h = absurd (no_answer k a e)

-- ---- one after the other

first_or_rest : (a : Said) (l : List Said) → outcome (a ∷ l) ≡ and_then a (outcome l)
first_or_rest accepted l = refl
first_or_rest (gives a) l = refl
first_or_rest (refused k) l = refl

then_settle : (cs : List Check) (a b : Said) → and_then (settle refused cs a) b ≡ settle refused cs (and_then a b)
then_settle cs a b = settle_map (λ (s : Said). and_then s b) refused cs a

-- steps that are all accepted leave it to what follows
accepted_both : (a : Said) (l : List Said) → outcome (a ∷ l) ≡ accepted → (a ≡ accepted) × (outcome l ≡ accepted)
accepted_both accepted l e = (refl, e)
accepted_both (gives a) l e = let z : ◌≡◌ {A = ℕ} 0 1 = cc in absurd (omega arith)
accepted_both (refused k) l e = let z : ◌≡◌ {A = ℕ} 0 1 = cc in absurd (omega arith)

runs_past : (steps rest : List Step) (x : Session) → outcome (run x steps) ≡ accepted → outcome (run x (steps ++ rest)) ≡ outcome (run (session_after x steps) rest)
unfolding run session_after
runs_past [] rest x e = refl
runs_past (a ∷ steps) rest x e =
    let u = accepted_both (said (step x a).answer) (run (step x a).session steps) e in
    ap (λ (s : Said). outcome (s ∷ run (step x a).session (steps ++ rest))) u.0 ∙ runs_past steps rest (step x a).session u.1

-- ---- the checks of two files

module _ (net ann : List ℕ) (r : Point) where
  abbrev st : Setting
  st = setting_in net

  abbrev steps : List Step
  steps = exchange (arcs_in net) (claim_in ann) (numbers_for net ann) (loads_for net ann)

  abbrev pub answer : Answer
  answer = answer_of st (claim_of (claim_in ann)) (sums_at st (numbers_for net ann) (loads_for net ann))

  abbrev pub opens : List Check
  opens = open_checks (setting_in net) r

  abbrev pub reads : List Check
  reads = reading_all st 0 (arcs_in net)

  abbrev pub notes : List Check
  notes = annotation_rules st (length (arcs_in net)) (claim_in ann) (numbers_for net ann) (loads_for net ann)

  abbrev pub ends : List Check
  ends = final_rules st r (arcs_in net) (claim_in ann) (numbers_for net ann) (loads_for net ann)

  pub by_steps : Hold (network_layout net) → Hold opens → Hold reads → Hold (annotation_layout (n_in net) ann)
      → judged net ann r ≡ outcome (run_from (setting_in net) r steps)
  by_steps hl ho hr ha =
      settle_append refused (network_checks net r) (annotation_checks net ann r) (gives answer)
      ∙ settled refused (network_checks net r) (settle refused (annotation_checks net ann r) (gives answer)) (hold_append (network_layout net) (opens ++ reads) hl (hold_append opens reads ho hr))
      ∙ settle_append refused (annotation_layout (n_in net) ann) (notes ++ ends) (gives answer)
      ∙ settled refused (annotation_layout (n_in net) ann) (settle refused (notes ++ ends) (gives answer)) ha
      ∙ sym (settle_append refused reads (notes ++ ends) (gives answer) ∙ settled refused reads (settle refused (notes ++ ends) (gives answer)) hr)
      ∙ sym (first_broken (setting_in net) r (arcs_in net) (claim_in ann) (numbers_for net ann) (loads_for net ann) (opens_rule (setting_in net) r ho))

  -- judging, part by part
  pub apart : judged net ann r ≡ settle refused (network_layout net) (settle refused opens (settle refused reads (settle refused (annotation_layout (n_in net) ann) (settle refused (notes ++ ends) (gives answer)))))
  apart =
      settle_append refused (network_checks net r) (annotation_checks net ann r) (gives answer)
      ∙ settle_append refused (network_layout net) (opens ++ reads) (settle refused (annotation_checks net ann r) (gives answer))
      ∙ ap (settle refused (network_layout net)) (settle_append refused opens reads (settle refused (annotation_checks net ann r) (gives answer)))
      ∙ ap (λ (s : Said). settle refused (network_layout net) (settle refused opens (settle refused reads s))) (settle_append refused (annotation_layout (n_in net) ann) (notes ++ ends) (gives answer))

  -- ---- through a session

  abbrev begun : Session
  begun = (opening (setting_in net) r).session

  -- what is left to the annotation file, where the records are read
  abbrev annotated : Said
  annotated = settle refused (annotation_layout (n_in net) ann) (outcome (run (session_after begun (steps_of_network net)) (steps_in (n_in net) ann)))

  -- what the records come out as, and opening with them
  abbrev read_first : Said
  read_first = outcome (run begun (steps_of_network net))

  opened_out : outcome (said (opening (setting_in net) r).answer ∷ run begun (steps_of_network net)) ≡ settle refused opens read_first
  opened_out =
      first_or_rest (said (opening (setting_in net) r).answer) (run begun (steps_of_network net))
      ∙ ap (λ (s : Said). and_then s read_first) (opening_answers (setting_in net) r)
      ∙ then_settle opens accepted read_first

  read_out : Hold opens → read_first ≡ settle refused reads accepted
  read_out ho = ap (λ (l : List Step). outcome (run begun l)) (sym (append-nil (steps_of_network net))) ∙ reading_broken (setting_in net) r (arcs_in net) (opens_rule (setting_in net) r ho)

  after_reading : Hold opens → Hold reads → outcome (run (session_after begun (steps_of_network net)) (steps_in (n_in net) ann)) ≡ settle refused (notes ++ ends) (gives answer)
  after_reading ho hr =
      sym (runs_past (steps_of_network net) (steps_in (n_in net) ann) begun (read_out ho ∙ settled refused reads accepted hr))
      ∙ first_broken (setting_in net) r (arcs_in net) (claim_in ann) (numbers_for net ann) (loads_for net ann) (opens_rule (setting_in net) r ho)
      ∙ settle_append refused reads (notes ++ ends) (gives answer)
      ∙ settled refused reads (settle refused (notes ++ ends) (gives answer)) hr

  after_opening : Hold opens
      → settle refused reads (settle refused (annotation_layout (n_in net) ann) (settle refused (notes ++ ends) (gives answer))) ≡ and_then read_first annotated
  after_opening ho =
      settle_when refused reads _ _ (λ hr. ap (settle refused (annotation_layout (n_in net) ann)) (sym (after_reading ho hr)))
      ∙ sym (ap (λ (s : Said). and_then s annotated) (read_out ho) ∙ then_settle reads accepted annotated)

pub judged_by_steps : JudgedBySteps
judged_by_steps net ann r =
    apart net ann r
    ∙ ap (settle refused (network_layout net))
    (settle_when refused (opens net ann r) _ _ (after_opening net ann r)
    ∙ sym (ap (λ (s : Said). and_then s (annotated net ann r)) (opened_out net ann r) ∙ then_settle (opens net ann r) (read_first net ann r) (annotated net ann r)))

pub only_accepted : OnlyAccepted
only_accepted net ann r a e =
    let h = (gives_held (network_checks net r ++ annotation_checks net ann r) (answer net ann r) a e).0 in
    let n = hold_left (network_checks net r) (annotation_checks net ann r) h in
    let rest = hold_right (network_layout net) (opens net ann r ++ reads net ann r) n in
    hold_append (network_layout net) (opening_checks (setting_in net) ++ reading_all (setting_in net) 0 (arcs_in net))
    (hold_left (network_layout net) (opens net ann r ++ reads net ann r) n)
    (hold_append (opening_checks (setting_in net)) (reads net ann r)
    (without_point (setting_in net) r (hold_left (opens net ann r) (reads net ann r) rest))
    (hold_right (opens net ann r) (reads net ann r) rest))

-- ---- how few points mislead

module _ (net ann : List ℕ) where
  abbrev exchanged : List Step
  exchanged = exchange (arcs_in net) (claim_in ann) (numbers_for net ann) (loads_for net ann)

  abbrev WrongRun : Point → Type 0
  WrongRun = WrongAt (setting_in net) exchanged

  wrong_run : (r : Point) → JudgedWrong net ann r → (list_read (setting_in net) exchanged ≡ arcs_in net) × WrongRun r
  wrong_run r w =
      let u = wrong_held (setting_in net) (arcs_in net) (answer net ann r) (network_checks net r ++ annotation_checks net ann r) w.1 in
      let n = hold_left (network_checks net r) (annotation_checks net ann r) u.0 in
      let m = hold_right (network_checks net r) (annotation_checks net ann r) u.0 in
      let rest = hold_right (network_layout net) (opens net ann r ++ reads net ann r) n in
      let hr = hold_right (opens net ann r) (reads net ann r) rest in
      let same = list_read_lem (setting_in net) [] (arcs_in net) (claim (claim_in ann) ∷ (map number (numbers_for net ann) ++ (map repeat (loads_for net ann) ++ (finish ∷ [])))) hr in
      let out = by_steps net ann r (hold_left (network_layout net) (opens net ann r ++ reads net ann r) n) (hold_left (opens net ann r) (reads net ann r) rest) hr
      (hold_left (annotation_layout (n_in net) ann) (notes net ann r ++ ends net ann r) m) in (
        same,
        (
          w.0,
          said_by (Wrong (setting_in net) (list_read (setting_in net) exchanged)) (run_from (setting_in net) r exchanged) (answer net ann r)
              (sym out ∙ settled refused (network_checks net r ++ annotation_checks net ann r) (gives (answer net ann r)) u.0)
              (subst (λ (l : List Arc). ¬ (TrueAnswer (setting_in net) l (answer net ann r))) (sym same) u.1),
        ),
      )

pub few_judged_wrong : FewJudgedWrong
few_judged_wrong net ann [] d w = omega arith
few_judged_wrong net ann (r ∷ rs) d w =
    subst (λ (l : List Arc). length (r ∷ rs) ≤ misleading_points (length l)) (wrong_run net ann r w.0).0
    (few_wrong (setting_in net) (exchanged net ann) (r ∷ rs) d (every_map (λ q h. (wrong_run net ann q h).1) (r ∷ rs) w))

pub few_judged_wrong_counted : FewJudgedWrongCounted
few_judged_wrong_counted net ann a h =
    at_most→points (JudgedWrong net ann) (λ r. is_other a (judged net ann r)) _
    (λ r w t. (w, other_wrong (setting_in net) (arcs_in net) a h (judged net ann r) t)) (few_judged_wrong net ann)

-- ---- certificates

claim_byte : (a : Answer) → Byte (claim_number (claim_for a))
claim_byte (value v) = omega arith
claim_byte none = omega arith

pub certificates_judged : CertificatesJudged
certificates_judged net ys f a r h one_each signed fit d c hr =
    let opened = file_opened net h in
    let few = file_few net h in
    let readable : Readable (setting_in net) (arcs_in net) = record { allowed = file_allowed net h; few = few } in
    let back = annotation_round_trip (claim_number (claim_for a)) ys f (claim_byte a) signed (omega (arith, perm_length d, length-map f (λ l. l.arc))) fit in
    let ann : List ℕ = annotation_file (claim_number (claim_for a)) ys f in (
      by_steps net ann r (layout_held net h) (opens_held (setting_in net) r (opening_held net h) hr) (reading_held net h) (subst (λ (n : ℕ). Hold (annotation_layout n ann)) one_each back.passes)
          ∙ same_out net ann r back.claim_back (subst (λ (n : ℕ). numbers_in n ann ≡ ys) one_each back.numbers_back) (subst (λ (n : ℕ). loads_in n ann ≡ f) one_each back.loads_back)
          ∙ certificates_pass (setting_in net) r (arcs_in net) ys f a
          (record { opened = opened; point = hr }) readable d one_each c,
      certificates_sound (setting_in net) (arcs_in net) (at ys) f a opened readable.allowed d c,
    )
  where
    same_out : (net ann : List ℕ) (r : Point) {k : ℕ} {ys : List ℤ} {f : List Load} → claim_in ann ≡ k → numbers_for net ann ≡ ys → loads_for net ann ≡ f
        → outcome (run_from (setting_in net) r (exchange (arcs_in net) (claim_in ann) (numbers_for net ann) (loads_for net ann)))
        ≡ outcome (run_from (setting_in net) r (exchange (arcs_in net) k ys f))
    same_out net ann r e1 e2 e3 = λ i. outcome (run_from (setting_in net) r (exchange (arcs_in net) (e1 i) (e2 i) (e3 i)))

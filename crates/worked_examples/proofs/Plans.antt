-- Plans: one whose tests pass when they are computed yields its outcomes.
use mathlib.Core.Path.{◌≡◌, refl, sym, ◌∙◌, ap, subst}
use mathlib.Core.Bool.{Bool, true, ◌&&◌}
use mathlib.Core.List.{List, [], ◌∷◌}
use Prim.Native.Nat.{ℕ}
use lib.Dec.{T}
use lib.IntN.{ℤ}
use lib.ListN.{length}
use Rattle.prelude.specs.Checks.{Check, ◌unless◌, Hold}
use Rattle.prelude.specs.Lists.{Perm, all, at}
use Rattle.prelude.specs.Sums.{all_to}
use Rattle.prelude.proofs.Booleans.{and_left, and_right}
use Rattle.prelude.proofs.Permutations.{perm_refl}
use Rattle.arc_records.specs.Arcs.{Arc}
use Rattle.network.specs.Network.{Load, arcs}
use Rattle.network.specs.Question.{Question, Setting, asks, Opened, Answer, TrueAnswer}
use Rattle.network.specs.Certificate.{Claim, claim_for, marked, ends_of, sums_of, rules_of, node_meets, Certified}
use Rattle.network.specs.Tests.{amount_ok, balances_ok, answer_of}
use Rattle.network.proofs.Promises.{one_answer, certificates_sound, tests_suffice}
use Rattle.points.specs.Points.{IsPoint}
use Rattle.points.specs.declared.Point.{Point}
use Rattle.state.specs.Answers.{gives}
use Rattle.format.specs.Files.{setting_in, network_file, n_in, arcs_in}
use Rattle.acceptance.specs.Acceptance.{acceptance_checks, AcceptedFile}
use Rattle.acceptance.proofs.AcceptedFiles.{file_opened, file_allowed}
use Rattle.judging.specs.Judging.{judged}
use Rattle.cert_instances.specs.Certify.{LengthsFor}
use Rattle.helper.specs.Helper.{Annotation}
use Rattle.demands.proofs.Promises.{annotation_judged}
use Rattle.worked_examples.specs.Table.{Plan, loads, annotation, AnyAnnotation, PlanYields}
use Rattle.worked_examples.proofs.Routes.{numbers_alike}

-- every check holds, as one test
abbrev pub all_hold : List Check → Bool
all_hold [] = true
all_hold ((k unless ok) ∷ cs) = ok && all_hold cs

held : (cs : List Check) → T (all_hold cs) → Hold cs
held [] t = tt
held ((k unless ok) ∷ cs) t = (and_left ok (all_hold cs) t, held cs (and_right ok (all_hold cs) t))

-- the checks on a certificate
abbrev pub certificate_checks : Setting → Claim → (ℕ → ℤ) → List Load → List Check
certificate_checks st c y f =
    9 unless (rules_of st c).admitted
    ∷ 10 unless all_to st.n (λ v. node_meets (rules_of st c) st v (y v))
    ∷ 11 unless all (amount_ok st c) f
    ∷ 12 unless all (λ l. (rules_of st c).on_arc (ends_of y (marked y) l.arc) l) f
    ∷ 15 unless balances_ok st c (sums_of (asks st) (marked y) f)
    ∷ 16 unless (rules_of st c).on_sums st y (marked y) (sums_of (asks st) (marked y) f)
    ∷ []

checked : (st : Setting) (c : Claim) (y : ℕ → ℤ) (f : List Load) → Opened st → Hold (certificate_checks st c y f) → Certified st y f (answer_of st c (sums_of (asks st) (marked y) f))
checked st c y f o h =
    tests_suffice st c y f o
    (record { claim = h.0; nodes = h.1.0; amounts = h.1.1.0; on_arcs = h.1.1.1.0; balances = h.1.1.1.1.0; sums = h.1.1.1.1.1.0 })

-- what an annotation of the plan's file gives, where the answer is true and the node numbers of a route are the least lengths
module _ (w : Plan) (accepted : AcceptedFile w.file) where
  abbrev st : Setting
  st = setting_in w.file

  abbrev net : List Arc
  net = arcs_in w.file

  certificate_true : (y : ℕ → ℤ) (f : List Load) (a : Answer) → arcs f ≡ net → Certified st y f a → TrueAnswer st net a
  certificate_true y f a each c =
      certificates_sound st net y f a (file_opened w.file accepted) (file_allowed w.file accepted) (subst (λ (es : List Arc). Perm (arcs f) es) each (perm_refl (arcs f))) c

  module _ (answer_true : TrueAnswer st net w.answer) where
    judged_so : (ann : List ℕ) → Annotation w.file ann → (r : Point) → IsPoint r → judged w.file ann r ≡ gives w.answer
    judged_so ann a r h =
        let j = annotation_judged w.file ann accepted a in
        j.at_every_point r h ∙ ap gives (one_answer st net j.answer w.answer j.is_true answer_true)

    helped :
        setting_in w.file ≡ w.setting → length w.numbers ≡ n_in w.file → LengthsFor (asks w.setting) st net (claim_for w.answer) (at w.numbers)
        → (ann : List ℕ) (a : Annotation w.file ann) → AnyAnnotation w ann a
    helped setting_back one_each lengths ann a = record {
      same_answer = same;
      same_numbers = numbers_alike (asks w.setting) st net (claim_for w.answer) a.numbers w.numbers a.one_each one_each numbered lengths;
      judged_so = judged_so ann a;
    }
      where
        same : a.answer ≡ w.answer
        same = one_answer st net a.answer w.answer (certificate_true (at a.numbers) a.loads a.answer a.in_order a.certified) answer_true

        numbered : LengthsFor (asks w.setting) st net (claim_for w.answer) (at a.numbers)
        numbered =
            subst (λ (q : Question). LengthsFor q st net (claim_for w.answer) (at a.numbers)) (ap asks setting_back)
            (subst (λ (b : Answer). LengthsFor (asks st) st net (claim_for b) (at a.numbers)) same a.lengths)

-- What is computed of a plan: six equations and two tests. With the least lengths of a route they give its outcomes.
pub plan_yields :
    (w : Plan)
    → w.file ≡ network_file w.setting w.net
    → setting_in w.file ≡ w.setting
    → arcs_in w.file ≡ w.net
    → arcs (loads w) ≡ w.net
    → length w.numbers ≡ w.setting.n
    → answer_of (setting_in w.file) (claim_for w.answer) (sums_of (asks (setting_in w.file)) (marked (at w.numbers)) (loads w)) ≡ w.answer
    → T (all_hold (acceptance_checks w.file))
    → T (all_hold (certificate_checks (setting_in w.file) (claim_for w.answer) (at w.numbers) (loads w)))
    → LengthsFor (asks w.setting) (setting_in w.file) (arcs_in w.file) (claim_for w.answer) (at w.numbers)
    → PlanYields w
plan_yields w encoded setting_back net_back each one_each answers accepts passes lengths = record {
  encoded = encoded;
  accepted = accepted;
  setting_back = setting_back;
  net_back = net_back;
  answer_true = answer_true;
  number_each = one_each;
  amount_each = each_back;
  certified = certified;
  judged_so = judged_so w accepted answer_true (annotation w) own;
  helped = helped w accepted answer_true setting_back one_back lengths;
}
  where
    accepted : AcceptedFile w.file
    accepted = held (acceptance_checks w.file) accepts

    one_back : length w.numbers ≡ n_in w.file
    one_back = one_each ∙ sym (ap (λ (st : Setting). st.n) setting_back)

    each_back : arcs (loads w) ≡ arcs_in w.file
    each_back = each ∙ sym net_back

    certified : Certified (setting_in w.file) (at w.numbers) (loads w) w.answer
    certified =
        subst (λ (a : Answer). Certified (setting_in w.file) (at w.numbers) (loads w) a) answers
        (checked (setting_in w.file) (claim_for w.answer) (at w.numbers) (loads w) (file_opened w.file accepted)
        (held (certificate_checks (setting_in w.file) (claim_for w.answer) (at w.numbers) (loads w)) passes))

    answer_true : TrueAnswer (setting_in w.file) (arcs_in w.file) w.answer
    answer_true = certificate_true w accepted (at w.numbers) (loads w) w.answer each_back certified

    own : Annotation w.file (annotation w)
    own = record {
      answer = w.answer;
      numbers = w.numbers;
      loads = loads w;
      one_each = one_back;
      in_order = each_back;
      certified = certified;
      lengths = subst (λ (q : Question). LengthsFor q (setting_in w.file) (arcs_in w.file) (claim_for w.answer) (at w.numbers)) (sym (ap asks setting_back)) lengths;
      bytes = refl;
    }

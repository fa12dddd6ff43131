-- The worked examples R1 to R10, L1, L2, P1, P2 and T1 (PANEL 13), one table, and what it means that the definitions yield the outcomes of an example.
use Rattle.std.specs.Prelude.{◌≡◌, ◌⊎◌, List, [], ◌∷◌, map, ℕ, ℤ, pos, length}
use Rattle.prelude.specs.Lists.{Every, Member, at}
use Rattle.field.specs.Field.{fingerprint, Agree}
use Rattle.arc_records.specs.Arcs.{Arc, arc_of}
use Rattle.network.specs.Network.{key, Load, load_of, arcs, loads_of}
use Rattle.network.specs.Question.{Question, shortest_path, maximum_flow, assignment, acyclicity, unasked, Setting, asks, Answer, value, none, TrueAnswer}
use Rattle.network.specs.Certificate.{claim_for, Certified}
use Rattle.network.specs.Tests.{claim_number}
use Rattle.points.specs.Points.{pair, IsPoint}
use Rattle.points.specs.declared.Point.{Point}
use Rattle.state.specs.Answers.{Said, gives, refused}
use Rattle.format.specs.Files.{setting_in, network_file, annotation_file, arcs_in}
use Rattle.acceptance.specs.Acceptance.{AcceptedFile}
use Rattle.judging.specs.Judging.{judged}
use Rattle.helper.specs.Helper.{Annotation}

-- ---- examples

-- A plan: what is asked, the network file, the answer, and a certificate of it: node numbers, and amounts in the order of the arcs.
pub record Plan : Type 0 where
  pub setting : Setting
  pub net : List Arc
  pub file : List ℕ
  pub answer : Answer
  pub numbers : List ℤ
  pub amounts : List ℕ

-- A fingerprint, and the one point that it is taken at.
pub record Taken : Type 0 where
  pub residue : ℕ
  pub point : ℕ

infix 68 ◌at_point◌
-- The fingerprint f, taken at the point r.
abbrev pub ◌at_point◌ : ℕ → ℕ → Taken
◌at_point◌ f r = record { residue = f; point = r }

-- An arc, its key, and fingerprints of the list that holds the arc alone.
pub record Product : Type 0 where
  pub arc : Arc
  pub key : ℕ
  pub prints : List Taken

-- The arcs read, the arcs repeated, and all points at which their fingerprints agree.
pub record Meeting : Type 0 where
  pub read : List Arc
  pub repeated : List Arc
  pub points : List ℕ

-- An annotation of a plan's network about other arcs than were read: its node numbers, its arcs with their amounts, and the answer that it is to give; all pairs of points at both of which the fingerprints agree, and some pairs of which they agree at one.
pub record Forgery : Type 0 where
  pub plan : Plan
  pub numbers : List ℤ
  pub loads : List Load
  pub answer : Answer
  pub at_both : List Point
  pub at_one : List Point

-- R1 to R6, L1, L2, P1 and P2 are plans, R7 and R10 products, R8 and R9 meetings, T1 is a forgery.
pub data Example : Type 0 where
  plan : Plan → Example
  product : Product → Example
  meeting : Meeting → Example
  forgery : Forgery → Example

-- ---- outcomes

-- The arcs with the certificate's amounts.
abbrev pub loads : Plan → List Load
loads w = loads_of w.net w.amounts

-- The annotation file that holds the plan's certificate.
abbrev pub annotation : Plan → List ℕ
annotation w = annotation_file (claim_number (claim_for w.answer)) w.numbers (loads w)

-- The node numbers of a route are the example's: they are the least lengths. Those of another question the helper may choose (PANEL 9).
abbrev pub SameNumbers : Question → List ℤ → List ℤ → Type 0
SameNumbers shortest_path ys zs = ys ≡ zs
SameNumbers maximum_flow ys zs = Unit {0}
SameNumbers assignment ys zs = Unit {0}
SameNumbers acyclicity ys zs = Unit {0}
SameNumbers unasked ys zs = Unit {0}

-- Any annotation that the helper may write has the example's answer, and is judged so at every pair of points.
pub record AnyAnnotation (w : Plan) (ann : List ℕ) (a : Annotation w.file ann) : Type 0 where
  pub same_answer : a.answer ≡ w.answer
  pub same_numbers : SameNumbers (asks w.setting) a.numbers w.numbers
  pub judged_so : (r : Point) → IsPoint r → judged w.file ann r ≡ gives w.answer

-- The file is the encoding of what is asked; the panel accepts it and reads that back; the answer is the true one; the certificate meets every rule for it; and judging the file with the certificate's annotation gives the answer at every pair of points.
pub record PlanYields (w : Plan) : Type 0 where
  pub encoded : w.file ≡ network_file w.setting w.net
  pub accepted : AcceptedFile w.file
  pub setting_back : setting_in w.file ≡ w.setting
  pub net_back : arcs_in w.file ≡ w.net
  pub answer_true : TrueAnswer (setting_in w.file) (arcs_in w.file) w.answer
  pub number_each : length w.numbers ≡ w.setting.n
  pub amount_each : arcs (loads w) ≡ arcs_in w.file
  pub certified : Certified (setting_in w.file) (at w.numbers) (loads w) w.answer
  pub judged_so : (r : Point) → IsPoint r → judged w.file (annotation w) r ≡ gives w.answer
  pub helped : (ann : List ℕ) (a : Annotation w.file ann) → AnyAnnotation w ann a

-- The key and the fingerprints are those of the definitions.
pub record ProductYields (w : Product) : Type 0 where
  pub keyed : key w.arc ≡ w.key
  pub taken : Every (λ f. fingerprint f.point (key w.arc ∷ []) ≡ f.residue) w.prints

-- The fingerprints agree at these points and nowhere else.
pub record MeetingYields (w : Meeting) : Type 0 where
  pub there : Every (Agree (map key w.read) (map key w.repeated)) w.points
  pub nowhere_else : (r : ℕ) → Agree (map key w.read) (map key w.repeated) r → Member r w.points

-- What judging says of the forgery at a pair of points.
abbrev pub forged_at : Forgery → Point → Said
forged_at w r = judged w.plan.file (annotation_file (claim_number (claim_for w.answer)) w.numbers w.loads) r

-- The fingerprints agree at one of the two points and differ at the other.
abbrev pub AtOne : Forgery → Point → Type 0
AtOne w r =
    let agree = Agree (map key w.plan.net) (map key (arcs w.loads)) in
    (agree r.first × ¬ (agree r.second)) ⊎ (agree r.second × ¬ (agree r.first))

-- The plan is right and the forgery's answer another; judging gives that where both points agree, and refusal 14 at all other pairs, also where one of the two agrees.
pub record ForgeryYields (w : Forgery) : Type 0 where
  pub truth : PlanYields w.plan
  pub wrong : ¬ (w.answer ≡ w.plan.answer)
  pub there : Every (λ r. IsPoint r × (forged_at w r ≡ gives w.answer)) w.at_both
  pub elsewhere : (r : Point) → IsPoint r → ¬ (Member r w.at_both) → forged_at w r ≡ refused 14
  pub one_refused : Every (λ r. AtOne w r × (forged_at w r ≡ refused 14)) w.at_one

-- The definitions yield the outcomes of the example.
abbrev pub Yields : Example → Type 0
Yields (plan w) = PlanYields w
Yields (product w) = ProductYields w
Yields (meeting w) = MeetingYields w
Yields (forgery w) = ForgeryYields w

-- ---- the table

-- The channels of R1, R2 and L1.
abbrev pub five_arcs : List Arc
five_arcs = arc_of 0 1 2 ∷ arc_of 1 3 5 ∷ arc_of 0 2 4 ∷ arc_of 2 3 2 ∷ arc_of 1 2 1 ∷ []

-- R1: a route of length 5.
abbrev pub R1 : Plan
R1 = record {
  setting = record { question = 1; n = 4; s = 0; t = 3 };
  net = five_arcs;
  file =
      0x44 ∷ 0x52 ∷ 0x4E ∷ 0x00 ∷ 0x01 ∷ 0x01 ∷ 0x04 ∷ 0x00 ∷ 0x03 ∷ 0x00 ∷ 0x05
      ∷ 0x00 ∷ 0x01 ∷ 0x00 ∷ 0x02
      ∷ 0x01 ∷ 0x03 ∷ 0x00 ∷ 0x05
      ∷ 0x00 ∷ 0x02 ∷ 0x00 ∷ 0x04
      ∷ 0x02 ∷ 0x03 ∷ 0x00 ∷ 0x02
      ∷ 0x01 ∷ 0x02 ∷ 0x00 ∷ 0x01 ∷ [];
  answer = value 5;
  numbers = pos 0 ∷ pos 2 ∷ pos 3 ∷ pos 5 ∷ [];
  amounts = 1 ∷ 0 ∷ 0 ∷ 1 ∷ 1 ∷ [];
}

-- R2: a discharge of 4 over the same channels.
abbrev pub R2 : Plan
R2 = record {
  setting = record { question = 2; n = 4; s = 0; t = 3 };
  net = five_arcs;
  file =
      0x44 ∷ 0x52 ∷ 0x4E ∷ 0x00 ∷ 0x01 ∷ 0x02 ∷ 0x04 ∷ 0x00 ∷ 0x03 ∷ 0x00 ∷ 0x05
      ∷ 0x00 ∷ 0x01 ∷ 0x00 ∷ 0x02
      ∷ 0x01 ∷ 0x03 ∷ 0x00 ∷ 0x05
      ∷ 0x00 ∷ 0x02 ∷ 0x00 ∷ 0x04
      ∷ 0x02 ∷ 0x03 ∷ 0x00 ∷ 0x02
      ∷ 0x01 ∷ 0x02 ∷ 0x00 ∷ 0x01 ∷ [];
  answer = value 4;
  numbers = pos 1 ∷ pos 0 ∷ pos 1 ∷ pos 0 ∷ [];
  amounts = 2 ∷ 2 ∷ 2 ∷ 2 ∷ 0 ∷ [];
}

-- R3: a pairing of cost 5.
abbrev pub R3 : Plan
R3 = record {
  setting = record { question = 3; n = 4; s = 2; t = 0 };
  net = arc_of 0 2 3 ∷ arc_of 0 3 1 ∷ arc_of 1 2 4 ∷ arc_of 1 3 5 ∷ [];
  file =
      0x44 ∷ 0x52 ∷ 0x4E ∷ 0x00 ∷ 0x01 ∷ 0x03 ∷ 0x04 ∷ 0x02 ∷ 0x00 ∷ 0x00 ∷ 0x04
      ∷ 0x00 ∷ 0x02 ∷ 0x00 ∷ 0x03
      ∷ 0x00 ∷ 0x03 ∷ 0x00 ∷ 0x01
      ∷ 0x01 ∷ 0x02 ∷ 0x00 ∷ 0x04
      ∷ 0x01 ∷ 0x03 ∷ 0x00 ∷ 0x05 ∷ [];
  answer = value 5;
  numbers = pos 1 ∷ pos 0 ∷ pos 4 ∷ pos 2 ∷ [];
  amounts = 0 ∷ 1 ∷ 1 ∷ 0 ∷ [];
}

-- R4: no channels, so no route. Only s is marked.
abbrev pub R4 : Plan
R4 = record {
  setting = record { question = 1; n = 4; s = 0; t = 3 };
  net = [];
  file = 0x44 ∷ 0x52 ∷ 0x4E ∷ 0x00 ∷ 0x01 ∷ 0x01 ∷ 0x04 ∷ 0x00 ∷ 0x03 ∷ 0x00 ∷ 0x00 ∷ [];
  answer = none;
  numbers = pos 1 ∷ pos 0 ∷ pos 0 ∷ pos 0 ∷ [];
  amounts = [];
}

-- R5: no channels, so a discharge of 0. Only s is marked.
abbrev pub R5 : Plan
R5 = record {
  setting = record { question = 2; n = 4; s = 0; t = 3 };
  net = [];
  file = 0x44 ∷ 0x52 ∷ 0x4E ∷ 0x00 ∷ 0x01 ∷ 0x02 ∷ 0x04 ∷ 0x00 ∷ 0x03 ∷ 0x00 ∷ 0x00 ∷ [];
  answer = value 0;
  numbers = pos 1 ∷ pos 0 ∷ pos 0 ∷ pos 0 ∷ [];
  amounts = [];
}

-- R6: no channels, so no pairing. The pumps are marked.
abbrev pub R6 : Plan
R6 = record {
  setting = record { question = 3; n = 4; s = 2; t = 0 };
  net = [];
  file = 0x44 ∷ 0x52 ∷ 0x4E ∷ 0x00 ∷ 0x01 ∷ 0x03 ∷ 0x04 ∷ 0x02 ∷ 0x00 ∷ 0x00 ∷ 0x00 ∷ [];
  answer = none;
  numbers = pos 1 ∷ pos 1 ∷ pos 0 ∷ pos 0 ∷ [];
  amounts = [];
}

-- R7: a key, and the fingerprint of one record at its key and at 0.
abbrev pub R7 : Product
R7 = record { arc = arc_of 0 1 2; key = 32770; prints = 0 at_point 32770 ∷ 2147450877 at_point 0 ∷ [] }

-- R8: other records are repeated, and one point misleads.
abbrev pub R8 : Meeting
R8 = record { read = arc_of 0 1 2 ∷ arc_of 0 1 5 ∷ []; repeated = arc_of 0 1 3 ∷ arc_of 0 1 3 ∷ []; points = 32769 ∷ [] }

-- R9: other records are repeated, and no point misleads.
abbrev pub R9 : Meeting
R9 = record { read = arc_of 0 1 2 ∷ arc_of 0 1 4 ∷ []; repeated = arc_of 0 1 3 ∷ arc_of 0 1 3 ∷ []; points = [] }

-- R10: the greatest key of an arc between two vertices.
abbrev pub R10 : Product
R10 = record { arc = arc_of 254 253 32767; key = 2139029503; prints = [] }

-- L1: no loop over the channels of R1.
abbrev pub L1 : Plan
L1 = record {
  setting = record { question = 4; n = 4; s = 0; t = 0 };
  net = five_arcs;
  file =
      0x44 ∷ 0x52 ∷ 0x4E ∷ 0x00 ∷ 0x01 ∷ 0x04 ∷ 0x04 ∷ 0x00 ∷ 0x00 ∷ 0x00 ∷ 0x05
      ∷ 0x00 ∷ 0x01 ∷ 0x00 ∷ 0x02
      ∷ 0x01 ∷ 0x03 ∷ 0x00 ∷ 0x05
      ∷ 0x00 ∷ 0x02 ∷ 0x00 ∷ 0x04
      ∷ 0x02 ∷ 0x03 ∷ 0x00 ∷ 0x02
      ∷ 0x01 ∷ 0x02 ∷ 0x00 ∷ 0x01 ∷ [];
  answer = value 0;
  numbers = pos 0 ∷ pos 1 ∷ pos 2 ∷ pos 3 ∷ [];
  amounts = 0 ∷ 0 ∷ 0 ∷ 0 ∷ 0 ∷ [];
}

-- L2: a loop by way of 1, 3 and 2, one of its channels with w 0.
abbrev pub L2 : Plan
L2 = record {
  setting = record { question = 4; n = 4; s = 0; t = 0 };
  net = arc_of 0 1 2 ∷ arc_of 1 3 5 ∷ arc_of 0 2 4 ∷ arc_of 2 1 0 ∷ arc_of 3 2 1 ∷ [];
  file =
      0x44 ∷ 0x52 ∷ 0x4E ∷ 0x00 ∷ 0x01 ∷ 0x04 ∷ 0x04 ∷ 0x00 ∷ 0x00 ∷ 0x00 ∷ 0x05
      ∷ 0x00 ∷ 0x01 ∷ 0x00 ∷ 0x02
      ∷ 0x01 ∷ 0x03 ∷ 0x00 ∷ 0x05
      ∷ 0x00 ∷ 0x02 ∷ 0x00 ∷ 0x04
      ∷ 0x02 ∷ 0x01 ∷ 0x00 ∷ 0x00
      ∷ 0x03 ∷ 0x02 ∷ 0x00 ∷ 0x01 ∷ [];
  answer = none;
  numbers = pos 0 ∷ pos 0 ∷ pos 0 ∷ pos 0 ∷ [];
  amounts = 0 ∷ 1 ∷ 0 ∷ 1 ∷ 1 ∷ [];
}

-- P1: two pumps and one site; the cheaper pump serves it, the other stays spare.
abbrev pub P1 : Plan
P1 = record {
  setting = record { question = 3; n = 3; s = 2; t = 0 };
  net = arc_of 0 2 5 ∷ arc_of 1 2 3 ∷ [];
  file =
      0x44 ∷ 0x52 ∷ 0x4E ∷ 0x00 ∷ 0x01 ∷ 0x03 ∷ 0x03 ∷ 0x02 ∷ 0x00 ∷ 0x00 ∷ 0x02
      ∷ 0x00 ∷ 0x02 ∷ 0x00 ∷ 0x05
      ∷ 0x01 ∷ 0x02 ∷ 0x00 ∷ 0x03 ∷ [];
  answer = value 3;
  numbers = pos 0 ∷ pos 0 ∷ pos 3 ∷ [];
  amounts = 0 ∷ 1 ∷ [];
}

-- P2: one pump and two sites, which it cannot both serve. No junction is marked.
abbrev pub P2 : Plan
P2 = record {
  setting = record { question = 3; n = 3; s = 1; t = 0 };
  net = arc_of 0 1 1 ∷ arc_of 0 2 1 ∷ [];
  file =
      0x44 ∷ 0x52 ∷ 0x4E ∷ 0x00 ∷ 0x01 ∷ 0x03 ∷ 0x03 ∷ 0x01 ∷ 0x00 ∷ 0x00 ∷ 0x02
      ∷ 0x00 ∷ 0x01 ∷ 0x00 ∷ 0x01
      ∷ 0x00 ∷ 0x02 ∷ 0x00 ∷ 0x01 ∷ [];
  answer = none;
  numbers = pos 0 ∷ pos 0 ∷ pos 0 ∷ [];
  amounts = 0 ∷ 0 ∷ [];
}

-- T1: the channels of R8 as a route, whose length is 2, and a plan about those that R8 repeats, of length 3.
abbrev pub T1 : Forgery
T1 = record {
  plan = record {
    setting = record { question = 1; n = 2; s = 0; t = 1 };
    net = R8.read;
    file =
        0x44 ∷ 0x52 ∷ 0x4E ∷ 0x00 ∷ 0x01 ∷ 0x01 ∷ 0x02 ∷ 0x00 ∷ 0x01 ∷ 0x00 ∷ 0x02
        ∷ 0x00 ∷ 0x01 ∷ 0x00 ∷ 0x02
        ∷ 0x00 ∷ 0x01 ∷ 0x00 ∷ 0x05 ∷ [];
    answer = value 2;
    numbers = pos 0 ∷ pos 2 ∷ [];
    amounts = 1 ∷ 0 ∷ [];
  };
  numbers = pos 0 ∷ pos 3 ∷ [];
  loads = load_of 0 1 3 1 ∷ load_of 0 1 3 0 ∷ [];
  answer = value 3;
  at_both = pair 32769 32769 ∷ [];
  at_one = pair 32769 0 ∷ pair 0 32769 ∷ [];
}

-- The table (PANEL 13).
abbrev pub table : List Example
table = plan R1 ∷ plan R2 ∷ plan R3 ∷ plan R4 ∷ plan R5 ∷ plan R6 ∷ product R7 ∷ meeting R8 ∷ meeting R9 ∷ product R10 ∷ plan L1 ∷ plan L2 ∷ plan P1 ∷ plan P2 ∷ forgery T1 ∷ []

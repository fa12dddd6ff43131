-- The two files (PANEL 7): the bytes that are written, what a file says, and the checks of a layout.
use mathlib.Core.List.{List, ◌∷◌, ◌++◌, flat_map}
use Rattle.std.specs.Prelude.{ℕ, ◌+◌, ◌*◌, ◌%◌, ℤ, length}
use Rattle.prelude.specs.Checks.{Check}
use Rattle.prelude.specs.Lists.{list_to}
use Rattle.arc_records.specs.Arcs.{Arc, arc_of}
use Rattle.network.specs.Network.{Load}
use Rattle.network.specs.Question.{Setting}
use Rattle.file_fields.specs.Bytes.{byte_at, byte16, read16, byte32, read_signed}
use Rattle.file_fields.specs.Layout.{mark_and_version, layout}

-- ---- what is written

-- The third letter of the mark of a network file, DRN: N. The first two are D, 68, and R, 82.
abbrev pub network_mark : ℕ
network_mark = 78

-- The third letter of the mark of an annotation file, DRA: A.
abbrev pub annotation_mark : ℕ
annotation_mark = 65

-- A network's header goes on with a byte for the question, one for n, one for s and one for t, and the count of records in 16 bits: 11 bytes.
abbrev pub network_header : Setting → ℕ → List ℕ
network_header st count = mark_and_version network_mark ++ st.question ∷ st.n ∷ st.s ∷ st.t ∷ byte16 count

-- An annotation's header goes on with a byte for the claim, and the count of records in 16 bits: 8 bytes.
abbrev pub annotation_header : ℕ → ℕ → List ℕ
annotation_header claim count = mark_and_version annotation_mark ++ claim ∷ byte16 count

-- A record of a network: a byte for the tail, one for the head, and the weight in 16 bits.
abbrev pub arc_bytes : Arc → List ℕ
arc_bytes a = a.tail ∷ a.head ∷ byte16 a.weight

-- A record of an annotation: the four bytes of the arc, and the amount in 16 bits.
abbrev pub load_bytes : Load → List ℕ
load_bytes l = arc_bytes l.arc ++ byte16 l.amount

-- A whole network file.
unfoldable pub network_file : Setting → List Arc → List ℕ
network_file st arcs = network_header st (length arcs) ++ flat_map arc_bytes arcs

-- A whole annotation file: between the header and the records stand the node numbers, each as the 32 bits of its two's complement.
unfoldable pub annotation_file : ℕ → List ℤ → List Load → List ℕ
annotation_file claim numbers loads = annotation_header claim (length loads) ++ (flat_map byte32 numbers ++ flat_map load_bytes loads)

-- ---- a record of any size

-- What a file has room for of a record of any size: the low byte, or the low 16 bits, of each field.
abbrev pub low_arc : Arc → Arc
low_arc a = arc_of (a.tail % 256) (a.head % 256) (a.weight % 65536)

-- ---- what a file says

-- The question in the header of a network file, at offset 5.
abbrev pub question_in : List ℕ → ℕ
question_in file = byte_at file 5

-- The number of vertices in it, at offset 6.
abbrev pub n_in : List ℕ → ℕ
n_in file = byte_at file 6

-- The source in it, at offset 7.
abbrev pub s_in : List ℕ → ℕ
s_in file = byte_at file 7

-- The sink in it, at offset 8.
abbrev pub t_in : List ℕ → ℕ
t_in file = byte_at file 8

-- The setting in the header of a network file.
abbrev pub setting_in : List ℕ → Setting
setting_in file = record { question = question_in file; n = n_in file; s = s_in file; t = t_in file }

-- The count of records in it, at offset 9.
abbrev pub count_in : List ℕ → ℕ
count_in file = read16 file 9

-- The claim in the header of an annotation file.
abbrev pub claim_in : List ℕ → ℕ
claim_in file = byte_at file 5

-- The count of records in it.
abbrev pub annotation_count : List ℕ → ℕ
annotation_count file = read16 file 6

-- The arc whose bytes begin at the index i.
abbrev pub arc_at : List ℕ → ℕ → Arc
arc_at file i = arc_of (byte_at file i) (byte_at file (i + 1)) (read16 file (i + 2))

-- The load whose bytes begin at the index i.
abbrev pub load_at : List ℕ → ℕ → Load
load_at file i = record { arc = arc_at file i; amount = read16 file (i + 4) }

-- The arc number e of a network file.
abbrev pub arc_in : List ℕ → ℕ → Arc
arc_in file e = arc_at file (11 + 4 * e)

-- All arcs of a network file, in file order.
abbrev pub arcs_in : List ℕ → List Arc
arcs_in file = list_to (count_in file) (arc_in file)

-- The node number of the vertex v in an annotation file.
abbrev pub number_in : List ℕ → ℕ → ℤ
number_in file v = read_signed file (8 + 4 * v)

-- The node numbers of n vertices.
abbrev pub numbers_in : ℕ → List ℕ → List ℤ
numbers_in n file = list_to n (number_in file)

-- The load number e of an annotation file with n node numbers.
abbrev pub load_in : ℕ → List ℕ → ℕ → Load
load_in n file e = load_at file (8 + 4 * n + 6 * e)

-- All its loads, in file order.
abbrev pub loads_in : ℕ → List ℕ → List Load
loads_in n file = list_to (annotation_count file) (load_in n file)

-- ---- the checks of a layout

-- The size of a network file (PANEL 7, check 19): 11 bytes, and 4 for each arc.
abbrev pub network_size : ℕ → ℕ
network_size count = 11 + 4 * count

-- The size of an annotation file (PANEL 7, check 19): 8 bytes, 4 for each of n node numbers, and 6 for each load.
abbrev pub annotation_size : ℕ → ℕ → ℕ
annotation_size n count = 8 + 4 * n + 6 * count

-- The checks of the layout of a network file (PANEL 7, checks 17 to 19).
abbrev pub network_layout : List ℕ → List Check
network_layout file = layout 11 network_mark (network_size (count_in file)) file

-- The checks of the layout of an annotation file for n vertices (PANEL 7, checks 17 to 19).
abbrev pub annotation_layout : ℕ → List ℕ → List Check
annotation_layout n file = layout 8 annotation_mark (annotation_size n (annotation_count file)) file

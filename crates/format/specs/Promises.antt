-- What is promised of the two files (PANEL 7); proofs/Promises.antt keeps it.
use Rattle.std.specs.Prelude.{◌≡◌, ◌⊎◌, List, ℕ, ◌≤◌, ◌<◌, ◌^◌, ℤ, length}
use Rattle.std.specs.Int.Signed.{mag}
use Rattle.prelude.specs.Checks.{Hold, first_broken}
use Rattle.prelude.specs.Lists.{Every}
use Rattle.arc_records.specs.Arcs.{Arc}
use Rattle.network.specs.Network.{Load}
use Rattle.network.specs.Question.{Setting}
use Rattle.format.specs.Files.{network_file, annotation_file, setting_in, arcs_in, claim_in, numbers_in, loads_in, network_layout, annotation_layout}

-- ---- what the fields hold

-- A byte.
abbrev pub Byte : ℕ → Type 0
Byte b = b < 256

-- Each number of the setting fits its byte.
pub record SettingFits (st : Setting) : Type 0 where
  pub question : Byte st.question
  pub n : Byte st.n
  pub s : Byte st.s
  pub t : Byte st.t

-- Each number of the arc fits its field.
pub record ArcFits (a : Arc) : Type 0 where
  pub tail : Byte a.tail
  pub head : Byte a.head
  pub weight : a.weight < 65536

-- Each number of the load fits its field.
pub record LoadFits (l : Load) : Type 0 where
  pub arc : ArcFits l.arc
  pub amount : l.amount < 65536

-- The numbers of 32 bits: mag is n of n and of -(n + 1).
abbrev pub Signed32 : ℤ → Type 0
Signed32 z = mag z < 2 ^ 31

-- ---- the promises

-- The file is bytes, passes every check of the layout of a network, and is read as this setting and these arcs.
pub record NetworkRead (st : Setting) (arcs : List Arc) (file : List ℕ) : Type 0 where
  pub bytes : Every Byte file
  pub passes : Hold (network_layout file)
  pub setting_back : setting_in file ≡ st
  pub arcs_back : arcs_in file ≡ arcs

-- A network that fits, once written, is read back as it was.
abbrev pub NetworkRoundTrip : Type 0
NetworkRoundTrip =
    (st : Setting) (arcs : List Arc) → SettingFits st → length arcs ≤ 65535 → Every ArcFits arcs → NetworkRead st arcs (network_file st arcs)

-- The file is bytes, passes every check of the layout of an annotation, and is read as this claim, these numbers and these loads.
pub record AnnotationRead (claim : ℕ) (numbers : List ℤ) (loads : List Load) (file : List ℕ) : Type 0 where
  pub bytes : Every Byte file
  pub passes : Hold (annotation_layout (length numbers) file)
  pub claim_back : claim_in file ≡ claim
  pub numbers_back : numbers_in (length numbers) file ≡ numbers
  pub loads_back : loads_in (length numbers) file ≡ loads

-- An annotation that fits, once written, is read back as it was.
abbrev pub AnnotationRoundTrip : Type 0
AnnotationRoundTrip =
    (claim : ℕ) (numbers : List ℤ) (loads : List Load)
    → Byte claim → Every Signed32 numbers → length loads ≤ 65535 → Every LoadFits loads
    → AnnotationRead claim numbers loads (annotation_file claim numbers loads)

-- Bytes that pass the checks of a network's layout are the encoding of what is read from them, and of nothing else.
abbrev pub OnlyNetwork : Type 0
OnlyNetwork =
    (file : List ℕ) → Every Byte file → Hold (network_layout file)
    → file ≡ network_file (setting_in file) (arcs_in file)

-- The same of an annotation's layout.
abbrev pub OnlyAnnotation : Type 0
OnlyAnnotation =
    (n : ℕ) (file : List ℕ) → Every Byte file → Hold (annotation_layout n file)
    → file ≡ annotation_file (claim_in file) (numbers_in n file) (loads_in n file)

-- No bytes pass check 17 of both layouts: one of the two refuses them by it.
abbrev pub OneLayout : Type 0
OneLayout = (n : ℕ) (file : List ℕ) → (first_broken (network_layout file) ≡ 17) ⊎ (first_broken (annotation_layout n file) ≡ 17)

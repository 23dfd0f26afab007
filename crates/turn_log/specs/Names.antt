-- How a name is shown as a word.
use Rattle.std.specs.Prelude.{ℕ, ◌≡◌, ◌<◌, ◌+◌, ◌/◌, ◌%◌, ◌==◌, ◌&&◌, not, nat_le, nat_lt, if◌then◌else◌, Bool, List, [], ◌∷◌, ◌++◌, flat_map, length, take}
use Rattle.turn_log.specs.declared.name.CutName.{CutName}

-- printable ASCII, and no space and no percent sign
abbrev pub is_plain : ℕ → Bool
is_plain b = nat_le 33 b && (nat_le b 126 && not (b == 37))

-- the ASCII code of a hexadecimal digit, in lower case
abbrev pub digit : ℕ → ℕ
digit n = if nat_lt n 10 then 48 + n else 87 + n

-- a byte as text: itself where it is plain, else a percent sign and two hexadecimal digits
abbrev pub shown_byte : ℕ → List ℕ
shown_byte b = if is_plain b then b ∷ [] else 37 ∷ digit (b / 16) ∷ digit (b % 16) ∷ []

-- a name as text: its bytes as text, one after the other, and a percent sign where it has none
abbrev pub shown_name : List ℕ → List ℕ
shown_name [] = 37 ∷ []
shown_name (b ∷ bs) = flat_map shown_byte (b ∷ bs)

-- what is behind a name that was cut: two dots
abbrev pub dots : List ℕ
dots = 46 ∷ 46 ∷ []

-- a name as text of which so many characters are shown: the first of its bytes as text, as many as fit, and two dots
abbrev pub IsCut : ℕ → List ℕ → List ℕ → Type 0
IsCut most name text = (k : ℕ) × (k < length name) × (text ≡ shown_name (take k name) ++ dots) × (most < length (shown_name (take k name)) + 3)

-- the text of a name that may have been cut
abbrev pub text_of : CutName → List ℕ
text_of cut = shown_name cut.shown.0.now ++ (if cut.is_cut then dots else [])

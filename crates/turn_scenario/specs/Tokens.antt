-- Words for tokens.
use Rattle.std.specs.Prelude.{◌∷◌, [], List, ℕ}

-- the word of `token=last`
abbrev pub last : List ℕ
last = 0x6C ∷ 0x61 ∷ 0x73 ∷ 0x74 ∷ []

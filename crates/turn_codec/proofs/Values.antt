-- The values that bytes encode are bytes.
use Rattle.std.proofs.Common.{ℕ, ◌<◌, ◌≡◌, List, [], ◌∷◌, ◌++◌, length, refl, subst, All, take_at, drop_at}
use Rattle.std.specs.Int.{w16, w32, to_be_bytes}
use Rattle.std.proofs.lemmas.List.Elements.{All-nil, All-cons, All-take, All-drop}
use Rattle.turn_codec.specs.Prelude.{Attribute, Content, Encodes, EncodesAttribute, EncodesAttributes, cookie, type_number}

abbrev pub AreBytes : List ℕ → Type 0
AreBytes bytes = All (λ x. x < 256) bytes

before : (xs ys : List ℕ) → AreBytes (xs ++ ys) → AreBytes xs
before xs ys h = subst AreBytes (take_at xs ys (length xs) refl) (All-take (λ x. x < 256) (length xs) (xs ++ ys) h)

after : (xs ys : List ℕ) → AreBytes (xs ++ ys) → AreBytes ys
after xs ys h = subst AreBytes (drop_at xs ys (length xs) refl) (All-drop (λ x. x < 256) (length xs) (xs ++ ys) h)

value : (bytes : List ℕ) (a : Attribute) → AreBytes bytes → EncodesAttribute bytes a → AreBytes a.value
value bytes a h s =
    let all = subst AreBytes s.is h in
    before a.value s.padding (after (to_be_bytes w16 a.kind ++ to_be_bytes w16 (length a.value)) (a.value ++ s.padding) all)

values : (attributes : List Attribute) (bytes : List ℕ) → AreBytes bytes → EncodesAttributes bytes attributes → All (λ a. AreBytes a.value) attributes
values [] bytes h s = All-nil (λ a. AreBytes a.value)
values (a ∷ others) bytes h s =
    let all = subst AreBytes s.2 h in
    All-cons (λ x. AreBytes x.value) a others (value s.0 a (before s.0 s.1 all) s.3) (values others s.1 (after s.0 s.1 all) s.4)

pub values_are_bytes : (bytes : List ℕ) (m : Content) → AreBytes bytes → Encodes bytes m → (length m.tx ≡ 12) × AreBytes m.tx × All (λ a. AreBytes a.value) m.attributes
values_are_bytes bytes m h s =
    let all = subst AreBytes s.is h in
    let from_tx = after (to_be_bytes w16 (type_number m.class m.method) ++ to_be_bytes w16 (length s.body) ++ to_be_bytes w32 cookie) (m.tx ++ s.body) all in
    (s.tx_size, before m.tx s.body from_tx, values m.attributes s.body (after m.tx s.body from_tx) s.attributes)

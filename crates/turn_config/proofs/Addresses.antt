-- The parts of an address as it is written are those that the splits at its marks give.
use Rattle.std.proofs.Common.{◌≡◌, ◌≢◌, ◌<◌, ℕ, List, [], ◌∷◌, ◌++◌, Some, map, refl, ◌∙◌, ap, arith}
use Rattle.std.proofs.lemmas.List.Elements.{All-append}
use Rattle.std.specs.Char.{digit_value}
use Rattle.std.specs.Int.{w32, from_be_bytes}
use Rattle.turn_types.specs.declared.address.Endpoint.{Endpoint}
use Rattle.turn_config.specs.Values.{number_of, IsNumberBelow, IsIp, IsEndpoint}
use Rattle.turn_config.proofs.Numbers.{number_without}
use Rattle.turn_config.proofs.Splits.{Without, same_split, cons_without}

octet_without : (text : List ℕ) → IsNumberBelow 256 text → Without 46 text
octet_without text n = number_without 256 46 text (λ h. omega arith) n

pub one_dot : (text f r : List ℕ) (address : ℕ) (n : IsIp text address) → text ≡ f ++ 46 ∷ r → Without 46 f
    → (f ≡ n.a) × (r ≡ n.b ++ 46 ∷ (n.c ++ 46 ∷ n.d))
one_dot text f r address n e w = same_split 46 text f r n.a (n.b ++ 46 ∷ (n.c ++ 46 ∷ n.d)) e n.encoded w (octet_without n.a n.numbers.0)

pub two_dots : (text f r g s : List ℕ) (address : ℕ) (n : IsIp text address) → text ≡ f ++ 46 ∷ r → Without 46 f
    → r ≡ g ++ 46 ∷ s → Without 46 g → (g ≡ n.b) × (s ≡ n.c ++ 46 ∷ n.d)
two_dots text f r g s address n e w e' w' =
    same_split 46 r g s n.b (n.c ++ 46 ∷ n.d) e' (one_dot text f r address n e w).1 w' (octet_without n.b n.numbers.1)

pub three_dots : (text f r g s h t : List ℕ) (address : ℕ) (n : IsIp text address) → text ≡ f ++ 46 ∷ r → Without 46 f
    → r ≡ g ++ 46 ∷ s → Without 46 g → s ≡ h ++ 46 ∷ t → Without 46 h → (h ≡ n.c) × (t ≡ n.d)
three_dots text f r g s h t address n e w e' w' e'' w'' =
    same_split 46 s h t n.c n.d e'' (two_dots text f r g s address n e w e' w').1 w'' (octet_without n.c n.numbers.2)

pub joined : (text f r g s h t : List ℕ) → text ≡ f ++ 46 ∷ r → r ≡ g ++ 46 ∷ s → s ≡ h ++ 46 ∷ t
    → text ≡ f ++ 46 ∷ (g ++ 46 ∷ (h ++ 46 ∷ t))
joined text f r g s h t e e' e'' = e ∙ ap (λ x. f ++ 46 ∷ x) (e' ∙ ap (λ x. g ++ 46 ∷ x) e'')

pub same_bytes : (i j k l : ℕ) (a b c d : List ℕ) → i ≡ number_of a → j ≡ number_of b → k ≡ number_of c → l ≡ number_of d
    → from_be_bytes w32 (i ∷ j ∷ k ∷ l ∷ []) ≡ from_be_bytes w32 (map number_of (a ∷ b ∷ c ∷ d ∷ []))
same_bytes i j k l a b c d p q r s =
    let lists : i ∷ j ∷ k ∷ l ∷ [] ≡ map number_of (a ∷ b ∷ c ∷ d ∷ []) = cc in
    ap (λ x. from_be_bytes w32 x) lists

-- an address has no byte that is neither a digit nor a dot
pub ip_without : (mark : ℕ) (text : List ℕ) (address : ℕ) → (digit_value mark < 10 → ⊥) → 46 ≢ mark → IsIp text address → Without mark text
ip_without mark text address none other n =
    let free : (part : List ℕ) → IsNumberBelow 256 part → Without mark part
    = λ part m. number_without 256 mark part none m in
    let dot : (part rest : List ℕ) → Without mark part → Without mark rest → Without mark (part ++ 46 ∷ rest)
    = λ part rest f g. All-append (λ byte. byte ≢ mark) part (46 ∷ rest) f (cons_without mark 46 rest other g) in
    rw n.encoded (dot n.a _ (free n.a n.numbers.0) (dot n.b _ (free n.b n.numbers.1)
    (dot n.c n.d (free n.c n.numbers.2) (free n.d n.numbers.3))))

pub colon : (text f r : List ℕ) (endpoint : Endpoint) (n : IsEndpoint text endpoint) → text ≡ f ++ 58 ∷ r → Without 58 f
    → (f ≡ n.ip) × (r ≡ n.port)
colon text f r endpoint n e w = same_split 58 text f r n.ip n.port e n.encoded w (ip_without 58 n.ip endpoint.ip (λ h. omega arith) (λ h. omega arith) n.address)

pub same_endpoint : (ip port : ℕ) (endpoint : Endpoint) → Some ip ≡ Some endpoint.ip → port ≡ endpoint.port
    → let read : Endpoint = record { ip = ip; port = port } in Some read ≡ Some endpoint
same_endpoint ip port endpoint e f = let same : ip ≡ endpoint.ip = cc in rw (same, f) refl

-- Numbers, and five-tuples, go by their bytes.
use Rattle.std.proofs.Common.{◌≡◌, ℕ, zero, suc, ◌+◌, ◌*◌, ◌^◌, ◌<◌, List, [], ◌++◌, refl, sym, ap, ◌∙◌, arith, Ordering, Less, Equal, Greater}
use Rattle.std.proofs.lemmas.Nat.{mod_below, from_be_bytes-to_be_bytes_2, from_be_bytes-to_be_bytes_4}
use Rattle.std.specs.Cmp.{ranked, nat_cmp_is}
use Rattle.std.specs.Cmp.Lexicographic.{slice_cmp}
use Rattle.std.specs.Int.{to_be_bytes, byte_at, w16, w32}
use Rattle.std.specs.Ordering.{nat_cmp, ordering_then}
use Rattle.turn_types.specs.Prelude.{TuplesGoByBytes, tuple_bytes, endpoint_bytes}

then_assoc : (x y z : Ordering) → ordering_then (ordering_then x y) z ≡ ordering_then x (ordering_then y z)
then_assoc Less y z = refl
then_assoc Equal y z = refl
then_assoc Greater y z = refl

then_equal : (x : Ordering) → ordering_then x Equal ≡ x
then_equal Less = refl
then_equal Equal = refl
then_equal Greater = refl

low : (a r s : ℕ) (o : Ordering) → o ≡ nat_cmp r s → o ≡ nat_cmp (a * 256 + r) (a * 256 + s)
low a r s Less e = let lt = ranked r s Less e in nat_cmp_is (a * 256 + r) (a * 256 + s) Less (omega arith)
low a r s Equal e = let same = ranked r s Equal e in nat_cmp_is (a * 256 + r) (a * 256 + s) Equal (omega arith)
low a r s Greater e = let lt = ranked r s Greater e in nat_cmp_is (a * 256 + r) (a * 256 + s) Greater (omega arith)

high : (a b r s : ℕ) (o : Ordering) → r < 256 → s < 256 → o ≡ nat_cmp a b → ordering_then o (nat_cmp r s) ≡ nat_cmp (a * 256 + r) (b * 256 + s)
high a b r s Less p q e = let lt = ranked a b Less e in nat_cmp_is (a * 256 + r) (b * 256 + s) Less (omega arith)
high a b r s Equal p q e =
    let same : a ≡ b = ranked a b Equal e in
    low a r s (nat_cmp r s) refl ∙ ap (λ n. nat_cmp (a * 256 + r) (n * 256 + s)) same
high a b r s Greater p q e = let lt = ranked a b Greater e in nat_cmp_is (a * 256 + r) (b * 256 + s) Greater (omega arith)

-- one more byte after
more : (a b r s : ℕ) → r < 256 → s < 256 → nat_cmp (a * 256 + r) (b * 256 + s) ≡ ordering_then (nat_cmp a b) (nat_cmp r s)
more a b r s p q = sym (high a b r s (nat_cmp a b) p q refl)

is_byte : (i n : ℕ) → byte_at i n < 256
is_byte zero n = mod_below n 256 (omega arith)
is_byte (suc i) n = mod_below _ 256 (omega arith)

worth2 : (m : ℕ) → m < 2 ^ 16 → byte_at 1 m * 256 + byte_at 0 m ≡ m
worth2 m lt = let e = from_be_bytes-to_be_bytes_2 m lt in omega arith

worth4 : (m : ℕ) → m < 2 ^ 32 → ((byte_at 3 m * 256 + byte_at 2 m) * 256 + byte_at 1 m) * 256 + byte_at 0 m ≡ m
worth4 m lt = let e = from_be_bytes-to_be_bytes_4 m lt in omega arith

two : (a b c d : ℕ) → b < 256 → d < 256 → nat_cmp (a * 256 + b) (c * 256 + d) ≡ ordering_then (nat_cmp a c) (nat_cmp b d)
two a b c d p q = more a c b d p q

four : (a b c d a' b' c' d' : ℕ) → b < 256 → c < 256 → d < 256 → b' < 256 → c' < 256 → d' < 256
    → nat_cmp (((a * 256 + b) * 256 + c) * 256 + d) (((a' * 256 + b') * 256 + c') * 256 + d')
    ≡ ordering_then (nat_cmp a a') (ordering_then (nat_cmp b b') (ordering_then (nat_cmp c c') (nat_cmp d d')))
four a b c d a' b' c' d' p q r p' q' r' =
    more ((a * 256 + b) * 256 + c) ((a' * 256 + b') * 256 + c') d d' r r'
    ∙ ap (λ o. ordering_then o (nat_cmp d d')) (more (a * 256 + b) (a' * 256 + b') c c' q q')
    ∙ ap (λ o. ordering_then (ordering_then o (nat_cmp c c')) (nat_cmp d d')) (more a a' b b' p p')
    ∙ then_assoc (ordering_then (nat_cmp a a') (nat_cmp b b')) (nat_cmp c c') (nat_cmp d d')
    ∙ then_assoc (nat_cmp a a') (nat_cmp b b') (ordering_then (nat_cmp c c') (nat_cmp d d'))

pub cmp16 : (m n : ℕ) (u v : List ℕ) → m < 2 ^ 16 → n < 2 ^ 16 → slice_cmp nat_cmp (to_be_bytes w16 m ++ u) (to_be_bytes w16 n ++ v) ≡ ordering_then (nat_cmp m n) (slice_cmp nat_cmp u v)
cmp16 m n u v p q =
    let s = slice_cmp nat_cmp u v in
    let numbers : nat_cmp m n ≡ ordering_then (nat_cmp (byte_at 1 m) (byte_at 1 n)) (nat_cmp (byte_at 0 m) (byte_at 0 n)) =
    ap (λ k. nat_cmp k n) (sym (worth2 m p)) ∙ ap (λ k. nat_cmp (byte_at 1 m * 256 + byte_at 0 m) k) (sym (worth2 n q))
    ∙ two (byte_at 1 m) (byte_at 0 m) (byte_at 1 n) (byte_at 0 n) (is_byte 0 m) (is_byte 0 n) in
    sym (ap (λ o. ordering_then o s) numbers ∙ then_assoc (nat_cmp (byte_at 1 m) (byte_at 1 n)) (nat_cmp (byte_at 0 m) (byte_at 0 n)) s)

pub cmp32 : (m n : ℕ) (u v : List ℕ) → m < 2 ^ 32 → n < 2 ^ 32 → slice_cmp nat_cmp (to_be_bytes w32 m ++ u) (to_be_bytes w32 n ++ v) ≡ ordering_then (nat_cmp m n) (slice_cmp nat_cmp u v)
cmp32 m n u v p q =
    let s = slice_cmp nat_cmp u v in
    let x3 = nat_cmp (byte_at 3 m) (byte_at 3 n) in
    let x2 = nat_cmp (byte_at 2 m) (byte_at 2 n) in
    let x1 = nat_cmp (byte_at 1 m) (byte_at 1 n) in
    let x0 = nat_cmp (byte_at 0 m) (byte_at 0 n) in
    let numbers : nat_cmp m n ≡ ordering_then x3 (ordering_then x2 (ordering_then x1 x0)) =
    ap (λ k. nat_cmp k n) (sym (worth4 m p)) ∙ ap (λ k. nat_cmp (((byte_at 3 m * 256 + byte_at 2 m) * 256 + byte_at 1 m) * 256 + byte_at 0 m) k) (sym (worth4 n q))
    ∙ four (byte_at 3 m) (byte_at 2 m) (byte_at 1 m) (byte_at 0 m) (byte_at 3 n) (byte_at 2 n) (byte_at 1 n) (byte_at 0 n)
    (is_byte 2 m) (is_byte 1 m) (is_byte 0 m) (is_byte 2 n) (is_byte 1 n) (is_byte 0 n) in
    sym (ap (λ o. ordering_then o s) numbers ∙ then_assoc x3 (ordering_then x2 (ordering_then x1 x0)) s
    ∙ ap (ordering_then x3) (then_assoc x2 (ordering_then x1 x0) s ∙ ap (ordering_then x2) (then_assoc x1 x0 s)))

pub by_bytes : TuplesGoByBytes
unfolding tuple_bytes endpoint_bytes
by_bytes f g p q =
    let a = nat_cmp f.client.ip g.client.ip in
    let b = nat_cmp f.client.port g.client.port in
    let c = nat_cmp f.server.ip g.server.ip in
    let d = nat_cmp f.server.port g.server.port in
    then_assoc a b (ordering_then c d)
    ∙ sym (cmp32 f.client.ip g.client.ip (to_be_bytes w16 f.client.port ++ (to_be_bytes w32 f.server.ip ++ to_be_bytes w16 f.server.port))
    (to_be_bytes w16 g.client.port ++ (to_be_bytes w32 g.server.ip ++ to_be_bytes w16 g.server.port)) p.client.ip q.client.ip
    ∙ ap (ordering_then a) (cmp16 f.client.port g.client.port (to_be_bytes w32 f.server.ip ++ to_be_bytes w16 f.server.port)
    (to_be_bytes w32 g.server.ip ++ to_be_bytes w16 g.server.port) p.client.port q.client.port
    ∙ ap (ordering_then b) (cmp32 f.server.ip g.server.ip (to_be_bytes w16 f.server.port) (to_be_bytes w16 g.server.port) p.server.ip q.server.ip
    ∙ ap (ordering_then c) (cmp16 f.server.port g.server.port [] [] p.server.port q.server.port ∙ then_equal d))))

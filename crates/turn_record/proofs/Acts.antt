-- The readers of act entries and payloads read what the encodings encode.
use Rattle.std.proofs.Common.{◌≡◌, ℕ, zero, suc, ap, ◌∙◌, ◌*◌, ◌^◌, ◌<◌, ◌≤◌, ◌⊎◌, Bool, true, false, not, ◌&&◌, ◌||◌, leb, ltb, eqb, List, [], ◌∷◌, ◌++◌, length, Ok, refl, sym, subst, arith, rules, inl, inr, IfSome, IsSomeAnd, None, Option, Some, ◌+◌, ◌%◌, ltb-true, leb-true, le-leb, eq-eqb, eqb-true}
use Rattle.std.specs.Int.{w16, w32, w64, from_be_bytes, to_be_bytes}
use Rattle.std.proofs.lemmas.Nat.{from_be_bytes-to_be_bytes_2}
use Rattle.std.specs.List.{list_any}
use Rattle.turn_history.specs.Prelude.{IsEndpoint, IsTuple, IsActInRange, IsInRange, IsTokenAfter, IsTokenOf, PlainAct, Allocates, Renews, Permits, Binds, Allocation, Event, Endpoint, FiveTuple, Bounds, Token, TxId}
use Rattle.turn_record.specs.Prelude.{joined, endpoint, five_tuple, name, tag, allocation, addresses, body, act_entry, payload, ◌>>=◌, last_passes, Binding, byte_at, number_at, bytes_at, moment_at, endpoint_at, tuple_at, name_len_at, name_at, granted_at, renewed_at, tx_at, begins_with, token_bytes_at, token_at, channel_number_at, count_at, port_at, allocation_at, is_even, pair_at, address_at, addresses_at, binding_at, body_at, max_tag, tag_at, moment_after, event_at, events_at, Writes}
use Rattle.turn_record.specs.declared.error.DecodeError.TheVariants.{BadTag, BadValue, OutOfOrder}
use Rattle.turn_record.specs.declared.version.Version.{Version}
use Rattle.turn_record.specs.declared.version.Version.TheVariants.{V1, V2}
use Rattle.turn_types.specs.Prelude.{AreInRange, default_lifetime, max_lifetime, end_of_moments}
use Rattle.turn_record.proofs.Once.{bytes_of_all, all_of_bytes, FitsAddress, none_before, after_distinct, distinct_after}
use Rattle.std.proofs.lemmas.List.Elements.{All-from_recursion, recursion_from_All}
use Rattle.turn_record.proofs.Fronts.{Passes, end_passes, good_passes, ok_is}
use Rattle.turn_record.proofs.Readers.{Codec, EachAfter, IsBytes, at_most, chain, chain_by, codec16, codec32, codec64, codec_as, codec_byte, codec_bytes, codec_counted, codec_judged, in_words, in_words_under, made, one, two_bytes}

-- ---- What a reader asks, before it is said in the words of histories

abbrev pub FitsName : Bounds → List ℕ → Type 0
FitsName b user = (0 < length user) × (length user ≤ b.name_bytes) × IsBytes user

abbrev pub FitsAddresses : Bounds → List ℕ → Type 0
FitsAddresses b xs = (0 < length xs) × (length xs ≤ b.permissions) × EachAfter FitsAddress [] xs

abbrev pub FitsTx : TxId → Type 0
FitsTx t = (length t.0 ≡ 12) × IsBytes t.0

-- ---- Tests

pub and_is : (a b : Bool) → (a && b) ≡ true → (a ≡ true) × (b ≡ true)
and_is true b e = (refl, e)
and_is false b e = absurd cc

pub and_from : (a b : Bool) → a ≡ true → b ≡ true → (a && b) ≡ true
and_from true b p q = q
and_from false b p q = absurd cc

pub or_is : (a b : Bool) → (a || b) ≡ true → (a ≡ true) ⊎ (b ≡ true)
or_is true b e = inl refl
or_is false b e = inr e

pub not_is : (a : Bool) → not a ≡ true → a ≡ false
not_is true e = absurd cc
not_is false e = refl

pub not_from : (a : Bool) → a ≡ false → not a ≡ true
not_from true e = absurd cc
not_from false e = refl

pub lt_from : (a b : ℕ) → a < b → ltb a b ≡ true
lt_from a b h = search (rules, le-leb)

-- ---- Fields

pub codec_moment : {U : Type 0} → Codec U moment_at (to_be_bytes w64) (λ m. m < end_of_moments) 8
unfolding moment_at
codec_moment =
    in_words _ _ _ _ _ (codec_judged (number_at w64) (to_be_bytes w64) (λ n. n < 2 ^ 64) (λ n. ltb n end_of_moments) BadValue refl codec64)
    (λ m. refl) (λ m h. ltb-true _ _ h.1) (λ m h. (omega arith, lt_from _ _ h))

pub codec_endpoint : {U : Type 0} → Codec U endpoint_at endpoint IsEndpoint 6
unfolding endpoint_at
codec_endpoint =
    in_words endpoint_at _ endpoint _ IsEndpoint
    (chain (number_at w32) (to_be_bytes w32) (λ n. n < 2 ^ 32) (λ ip bytes. number_at w16 bytes >>= λ port. Ok (record { ip = ip; port = port.0 }, port.1)) (λ ip e. to_be_bytes w16 e.port ++ []) (λ (e : Endpoint). e.ip) (λ e. Unit {0}) (λ ip e. (e.port < 2 ^ 16) × Unit {0}) codec32
    (λ ip. chain (number_at w16) (to_be_bytes w16) (λ n. n < 2 ^ 16) (λ port bytes. Ok (record { ip = ip; port = port }, bytes)) (λ port e. []) (λ (e : Endpoint). e.port) (λ e. Unit {0} × (e.ip ≡ ip)) (λ port e. Unit {0}) codec16
    (λ port. made (record { ip = ip; port = port }) (λ e. (Unit {0} × (e.ip ≡ ip)) × (e.port ≡ port)) ((tt, refl), refl) (λ e h. rw (← h.0.1, ← h.1) refl))))
    (λ e. refl) (λ e h. record { ip = h.1.0; port = h.1.1.0 }) (λ e h. (tt, (h.ip, (h.port, tt))))

pub codec_tuple : {U : Type 0} → Codec U tuple_at five_tuple IsTuple 12
unfolding tuple_at
codec_tuple =
    in_words tuple_at _ five_tuple _ IsTuple
    (chain endpoint_at endpoint IsEndpoint (λ client bytes. endpoint_at bytes >>= λ server. Ok (record { client = client; server = server.0 }, server.1)) _ (λ (f : FiveTuple). f.client) (λ f. Unit {0}) _ codec_endpoint
    (λ client. chain endpoint_at endpoint IsEndpoint (λ server bytes. Ok (record { client = client; server = server }, bytes)) _ (λ (f : FiveTuple). f.server) (λ f. Unit {0} × (f.client ≡ client)) _ codec_endpoint
    (λ server. made (record { client = client; server = server }) (λ f. (Unit {0} × (f.client ≡ client)) × (f.server ≡ server)) ((tt, refl), refl) (λ f e. rw (← e.0.1, ← e.1) refl))))
    (λ f. refl) (λ f h. record { client = h.1.0; server = h.1.1.0 }) (λ f h. (tt, (h.client, (h.server, tt))))

codec_name_len : {U : Type 0} (b : Bounds) → Codec U (name_len_at b) (to_be_bytes w16) (λ n. (0 < n) × (n ≤ b.name_bytes) × (n < 2 ^ 16)) 2
unfolding name_len_at
codec_name_len b =
    in_words _ _ _ _ _ (codec_judged (number_at w16) (to_be_bytes w16) (λ n. n < 2 ^ 16) (λ n. ltb 0 n && leb n b.name_bytes) BadValue refl codec16)
    (λ n. refl) (λ n h. let p = and_is _ _ h.1 in (ltb-true _ _ p.0, leb-true _ _ p.1, h.0)) (λ n h. (h.2, and_from _ _ (lt_from _ _ h.0) (le-leb _ _ h.1)))

name_len_passes : (b : Bounds) → Passes (name_len_at b) (λ n. n ≤ b.name_bytes)
unfolding name_len_at
name_len_passes b bytes n rest e = leb-true _ _ (and_is _ _ (good_passes (number_at w16) (λ n. ltb 0 n && leb n b.name_bytes) BadValue bytes n rest e)).1

pub codec_name : {U : Type 0} (b : Bounds) → (U → AreInRange b) → Codec U (name_at b) name (FitsName b) (2 + b.name_bytes)
unfolding name_at
codec_name b range =
    in_words_under (name_at b) _ name _ (FitsName b)
    (chain_by (name_len_at b) (to_be_bytes w16) (λ n. (0 < n) × (n ≤ b.name_bytes) × (n < 2 ^ 16)) bytes_at (λ n text. text) (λ text. length text) (λ text. Unit {0}) (λ n text. IsBytes text) (codec_name_len b) (name_len_passes b)
    (λ n le. at_most _ _ _ b.name_bytes (in_words _ _ _ _ _ (codec_bytes n) (λ text. refl) (λ text e. ((tt, e.0), e.1)) (λ text e. (e.0.1, e.1))) le))
    (λ text. refl) (λ text h. (h.1.0.0, h.1.0.1, h.1.1)) (λ under text h. (tt, ((h.0, h.1, omega (arith, (range under).name_bytes.1, h.1)), h.2)))

pub codec_granted : {U : Type 0} → Codec U granted_at (to_be_bytes w32) (λ g. (default_lifetime ≤ g) × (g ≤ max_lifetime)) 4
unfolding granted_at
codec_granted =
    in_words _ _ _ _ _ (codec_judged (number_at w32) (to_be_bytes w32) (λ n. n < 2 ^ 32) (λ g. leb default_lifetime g && leb g max_lifetime) BadValue refl codec32)
    (λ n. refl) (λ n h. let p = and_is _ _ h.1 in (leb-true _ _ p.0, leb-true _ _ p.1)) (λ n h. (omega arith, and_from _ _ (le-leb _ _ h.0) (le-leb _ _ h.1)))

pub any_or : (a : Bool) → (a || true) ≡ true
any_or true = refl
any_or false = refl

abbrev IsRenewed : ℕ → Type 0
IsRenewed g = (g ≡ 0) ⊎ ((default_lifetime ≤ g) × (g ≤ max_lifetime))

renewed_good : (g : ℕ) → IsRenewed g → (g < 2 ^ 32) × ((eqb g 0 || (leb default_lifetime g && leb g max_lifetime)) ≡ true)
renewed_good g (inl e) = (omega arith, rw e refl)
renewed_good g (inr h) = (omega arith, rw (and_from _ _ (le-leb default_lifetime g h.0) (le-leb g max_lifetime h.1)) (any_or (eqb g 0)))

renewed_words : (g : ℕ) → (eqb g 0 ≡ true) ⊎ ((leb default_lifetime g && leb g max_lifetime) ≡ true) → IsRenewed g
renewed_words g (inl e) = inl (eqb-true _ _ e)
renewed_words g (inr e) = let p = and_is _ _ e in inr (leb-true _ _ p.0, leb-true _ _ p.1)

pub codec_renewed : {U : Type 0} → Codec U renewed_at (to_be_bytes w32) IsRenewed 4
unfolding renewed_at
codec_renewed =
    in_words _ _ _ _ _ (codec_judged (number_at w32) (to_be_bytes w32) (λ n. n < 2 ^ 32) (λ g. eqb g 0 || (leb default_lifetime g && leb g max_lifetime)) BadValue refl codec32)
    (λ n. refl) (λ n h. renewed_words n (or_is _ _ h.1)) (λ n h. renewed_good n h)

pub codec_tx : {U : Type 0} → Codec U tx_at (λ t. t.0) FitsTx 12
unfolding tx_at
codec_tx =
    let tx : List ℕ → TxId = λ t. record { 0 = t } in
    codec_as (bytes_at 12) (λ t. t) (λ t. (length t ≡ 12) × IsBytes t) tx _ _ (codec_bytes 12) (λ t h. refl) (λ t h. h) (λ t h. (t.0, refl, h))

abbrev FitsToken : Token → Type 0
FitsToken k = (length k.0 ≡ 8) × IsBytes k.0

codec_token_bytes : {U : Type 0} → Codec U token_bytes_at (λ k. k.0) FitsToken 8
unfolding token_bytes_at
codec_token_bytes =
    let token : List ℕ → Token = λ k. record { 0 = k } in
    codec_as (bytes_at 8) (λ k. k) (λ k. (length k ≡ 8) × IsBytes k) token _ _ (codec_bytes 8) (λ k h. refl) (λ k h. h) (λ k h. (k.0, refl, h))

-- the token of a port
abbrev pub FitsTokenOf : ℕ → Token → Type 0
FitsTokenOf port k = (port < 2 ^ 16) × IsTokenOf port k

token_is : (port : ℕ) (k : Token) → FitsToken k × (begins_with port k ≡ true) → FitsTokenOf port k
token_is port k h = let t = two_bytes port k.0 h.0.1 (omega (arith, h.0.0)) (eqb-true _ _ h.1) in (t.0, record { size = h.0.0; bytes = all_of_bytes k.0 h.0.1; begins = t.1 })

is_token : (port : ℕ) (k : Token) → FitsTokenOf port k → FitsToken k × (begins_with port k ≡ true)
is_token port k h = ((h.1.size, bytes_of_all k.0 h.1.bytes), eq-eqb _ _ (ap (from_be_bytes w16) h.1.begins ∙ from_be_bytes-to_be_bytes_2 port h.0))

pub codec_token : {U : Type 0} (port : ℕ) → Codec U (token_at port) (λ k. k.0) (FitsTokenOf port) 8
unfolding token_at
codec_token port =
    in_words _ _ _ _ _ (codec_judged token_bytes_at (λ k. k.0) FitsToken (begins_with port) BadValue refl codec_token_bytes)
    (λ k. refl) (token_is port) (is_token port)

pub codec_channel_number : {U : Type 0} → Codec U channel_number_at (to_be_bytes w16) (λ n. (0x4000 ≤ n) × (n ≤ 0x4FFF)) 2
unfolding channel_number_at
codec_channel_number =
    in_words _ _ _ _ _ (codec_judged (number_at w16) (to_be_bytes w16) (λ n. n < 2 ^ 16) (λ n. leb 0x4000 n && leb n 0x4FFF) BadValue refl codec16)
    (λ n. refl) (λ n h. let p = and_is _ _ h.1 in (leb-true _ _ p.0, leb-true _ _ p.1)) (λ n h. (omega arith, and_from _ _ (le-leb _ _ h.0) (le-leb _ _ h.1)))

pub codec_count : {U : Type 0} (low high : ℕ) → (U → high < 256) → Codec U (count_at low high) one (λ n. (low ≤ n) × (n ≤ high)) 1
unfolding count_at
codec_count low high small =
    in_words_under _ _ _ _ _ (codec_judged byte_at one (λ n. n < 256) (λ n. leb low n && leb n high) BadValue refl codec_byte)
    (λ n. refl) (λ n h. let p = and_is _ _ h.1 in (leb-true _ _ p.0, leb-true _ _ p.1)) (λ under n h. (omega (arith, h.1, small under), and_from _ _ (le-leb _ _ h.0) (le-leb _ _ h.1)))

pub count_passes : (low high : ℕ) → Passes (count_at low high) (λ n. n ≤ high)
unfolding count_at
count_passes low high bytes n rest e = leb-true _ _ (and_is _ _ (good_passes byte_at (λ n. leb low n && leb n high) BadValue bytes n rest e)).1

-- ---- Acts

pub codec_port : {U : Type 0} (free : ℕ → Bool) → Codec U (port_at free) (to_be_bytes w16) (λ n. (n < 2 ^ 16) × (free n ≡ true)) 2
unfolding port_at
codec_port free = codec_judged (number_at w16) (to_be_bytes w16) (λ n. n < 2 ^ 16) free BadValue refl codec16

pub record FitsAllocation (b : Bounds) (test : ℕ → Bool) (a : Allocation) : Type 0 where
  pub user : FitsName b a.user
  pub port : a.port < 2 ^ 16
  pub free : test a.port ≡ true
  pub low : default_lifetime ≤ a.granted
  pub high : a.granted ≤ max_lifetime
  pub tx : FitsTx a.tx
  pub token : a.token ≡ None

pub codec_allocation : {U : Type 0} (b : Bounds) → (U → AreInRange b) → (free : ℕ → Bool) → Codec U (allocation_at b free) allocation (FitsAllocation b free) ((2 + b.name_bytes) + 18)
unfolding allocation_at
codec_allocation b range free =
    in_words (allocation_at b free) _ allocation _ (FitsAllocation b free)
    (chain (name_at b) name (FitsName b) (λ user bytes. port_at free bytes >>= λ port. granted_at port.1 >>= λ granted. tx_at granted.1 >>= λ tx. Ok (record { user = user; port = port.0; granted = granted.0; tx = tx.0; token = None }, tx.1)) _ (λ (a : Allocation). a.user) (λ a. a.token ≡ None) _ (codec_name b range)
    (λ user. chain (port_at free) (to_be_bytes w16) (λ n. (n < 2 ^ 16) × (free n ≡ true)) (λ port bytes. granted_at bytes >>= λ granted. tx_at granted.1 >>= λ tx. Ok (record { user = user; port = port; granted = granted.0; tx = tx.0; token = None }, tx.1)) _ (λ (a : Allocation). a.port) (λ a. (a.token ≡ None) × (a.user ≡ user)) _ (codec_port free)
    (λ port. chain granted_at (to_be_bytes w32) (λ g. (default_lifetime ≤ g) × (g ≤ max_lifetime)) (λ granted bytes. tx_at bytes >>= λ tx. Ok (record { user = user; port = port; granted = granted; tx = tx.0; token = None }, tx.1)) _ (λ (a : Allocation). a.granted) (λ a. ((a.token ≡ None) × (a.user ≡ user)) × (a.port ≡ port)) _ codec_granted
    (λ granted. chain tx_at (λ (t : TxId). t.0) FitsTx (λ tx bytes. Ok (record { user = user; port = port; granted = granted; tx = tx; token = None }, bytes)) _ (λ (a : Allocation). a.tx) (λ a. (((a.token ≡ None) × (a.user ≡ user)) × (a.port ≡ port)) × (a.granted ≡ granted)) _ codec_tx
    (λ tx. made (record { user = user; port = port; granted = granted; tx = tx; token = None }) (λ a. ((((a.token ≡ None) × (a.user ≡ user)) × (a.port ≡ port)) × (a.granted ≡ granted)) × (a.tx ≡ tx)) ((((refl, refl), refl), refl), refl)
    (λ a e. λ i. record { user = e.0.0.0.1 i; port = e.0.0.1 i; granted = e.0.1 i; tx = e.1 i; token = e.0.0.0.0 i }))))))
    (λ a. refl) (λ a h. record { user = h.1.0; port = h.1.1.0.0; free = h.1.1.0.1; low = h.1.1.1.0.0; high = h.1.1.1.0.1; tx = h.1.1.1.1.0; token = h.0 })
    (λ a h. (h.token, (h.user, ((h.port, h.free), ((h.low, h.high), (h.tx, tt))))))

-- it has no token yet
pub allocation_passes : (b : Bounds) (free : ℕ → Bool) → Passes (allocation_at b free) (λ a. a.token ≡ None)
unfolding allocation_at
allocation_passes b free =
    end_passes (name_at b) _ (λ user. end_passes (port_at free) _ (λ port. end_passes granted_at _ (λ granted. end_passes tx_at _
    (λ tx bytes a rest e. sym (ap (λ (p : Allocation × List ℕ). p.0.token) (ok_is _ (a, rest) e))))))

codec_address : {U : Type 0} (before : List ℕ) → Codec U (address_at before) (to_be_bytes w32) (FitsAddress before) 4
unfolding address_at
codec_address before =
    in_words _ _ _ _ _ (codec_judged (number_at w32) (to_be_bytes w32) (λ n. n < 2 ^ 32) (λ a. not (list_any (λ y. eqb y a) before)) BadValue refl codec32)
    (λ n. refl) (λ n h. (h.0, not_is _ h.1)) (λ n h. (h.0, not_from _ h.1))

codec_addresses : {U : Type 0} (b : Bounds) → (U → AreInRange b) → Codec U (addresses_at b) addresses (FitsAddresses b) (1 + b.permissions * 4)
unfolding addresses_at
codec_addresses b range =
    in_words _ _ _ _ _ (codec_counted (count_at 1 b.permissions) one (λ n. (1 ≤ n) × (n ≤ b.permissions)) b.permissions address_at (to_be_bytes w32) FitsAddress (codec_count 1 b.permissions (λ under. omega (arith, (range under).permissions.1))) (count_passes 1 b.permissions) codec_address)
    (λ xs. refl) (λ xs h. (omega (arith, h.0.0), h.0.1, h.1)) (λ xs h. ((omega (arith, h.0), h.1), h.2))

abbrev binding : Binding → List ℕ
binding a = joined (to_be_bytes w16 a.number ∷ endpoint a.peer ∷ [])

abbrev FitsBinding : Binding → Type 0
FitsBinding a = ((0x4000 ≤ a.number) × (a.number ≤ 0x4FFF)) × IsEndpoint a.peer

codec_binding : {U : Type 0} → Codec U binding_at binding FitsBinding 8
unfolding binding_at
codec_binding =
    in_words binding_at _ binding _ FitsBinding
    (chain channel_number_at (to_be_bytes w16) (λ n. (0x4000 ≤ n) × (n ≤ 0x4FFF)) (λ number bytes. endpoint_at bytes >>= λ peer. Ok (record { number = number; peer = peer.0 }, peer.1)) _ (λ (a : Binding). a.number) (λ a. Unit {0}) _ codec_channel_number
    (λ number. chain endpoint_at endpoint IsEndpoint (λ peer bytes. Ok (record { number = number; peer = peer }, bytes)) _ (λ (a : Binding). a.peer) (λ a. Unit {0} × (a.number ≡ number)) _ codec_endpoint
    (λ peer. made (record { number = number; peer = peer }) (λ a. (Unit {0} × (a.number ≡ number)) × (a.peer ≡ peer)) ((tt, refl), refl) (λ a e. rw (← e.0.1, ← e.1) refl))))
    (λ a. refl) (λ a h. (h.1.0, h.1.1.0)) (λ a h. (tt, (h.0, (h.1, tt))))

-- what an Allocate gave, without its token
abbrev pub plain : List ℕ → ℕ → ℕ → TxId → Allocation
plain user port granted tx = record { user = user; port = port; granted = granted; tx = tx; token = None }

-- an allocation whose values are in range has an encoding
pub fits_allocation : (b : Bounds) (free : ℕ → Bool) (user : List ℕ) (port granted : ℕ) (tx : TxId) (token : Option Token) → IsActInRange b (Allocates user port granted tx token) → free port ≡ true → FitsAllocation b free (plain user port granted tx)
fits_allocation b free user port granted tx token h is_free =
    record { user = (h.0.0, h.0.1, bytes_of_all user h.0.2); port = h.1; free = is_free; low = h.2.0; high = h.2.1; tx = (h.3.0, bytes_of_all tx.0 h.3.1); token = refl }

pub allocation_fits : (b : Bounds) (free : ℕ → Bool) (a : Allocation) (token : Option Token) → FitsAllocation b free a → IfSome token (IsTokenAfter a.port) → IsActInRange b (Allocates a.user a.port a.granted a.tx token)
allocation_fits b free a token h after = ((h.user.0, h.user.1, all_of_bytes a.user h.user.2), h.port, (h.low, h.high), (h.tx.0, all_of_bytes a.tx.0 h.tx.1), after)

-- ---- Pairs of ports

abbrev pub token_if : Option Token → List ℕ
token_if None = []
token_if (Some token) = token.0

abbrev pair : Allocation → List ℕ
pair a = allocation a ++ token_if a.token

-- an even port, and a token for the next one
abbrev FitsPair : Bounds → Allocation → Type 0
FitsPair b a = FitsAllocation b is_even (plain a.user a.port a.granted a.tx) × IsSomeAnd a.token (FitsTokenOf (a.port + 1))

-- the next port of an even one is a port
pub next_small : (port : ℕ) → port < 2 ^ 16 → port % 2 ≡ 0 → port + 1 < 2 ^ 16
next_small port lt even = omega (arith, lt, even)

pub even_is : (port : ℕ) → is_even port ≡ true → port % 2 ≡ 0
even_is port e = eqb-true _ _ e

module _ (a : Allocation) where
  abbrev Paired : Allocation → Type 0
  Paired y = (Unit {0} × (plain y.user y.port y.granted y.tx ≡ a)) × IsSomeAnd y.token (FitsTokenOf (a.port + 1))

  from_token : (y : Allocation) → Paired y → (k : Token) × (y ≡ record { user = a.user; port = a.port; granted = a.granted; tx = a.tx; token = Some k }) × FitsTokenOf (a.port + 1) k
  from_token y h = by_token y.token refl h.1
    where
      by_token : (o : Option Token) → y.token ≡ o → IsSomeAnd o (FitsTokenOf (a.port + 1)) → (k : Token) × (y ≡ record { user = a.user; port = a.port; granted = a.granted; tx = a.tx; token = Some k }) × FitsTokenOf (a.port + 1) k
      by_token None e is = absurd is
      by_token (Some k) e is = (k, λ i. record { user = (h.0.1 i).user; port = (h.0.1 i).port; granted = (h.0.1 i).granted; tx = (h.0.1 i).tx; token = e i }, is)

codec_pair : {U : Type 0} (b : Bounds) → (U → AreInRange b) → Codec U (pair_at b) pair (FitsPair b) (((2 + b.name_bytes) + 18) + 8)
unfolding pair_at
codec_pair b range =
    in_words (pair_at b) _ pair _ (FitsPair b)
    (chain_by (allocation_at b is_even) allocation (FitsAllocation b is_even) (λ a bytes. token_at (a.port + 1) bytes >>= λ k. Ok (record { user = a.user; port = a.port; granted = a.granted; tx = a.tx; token = Some k.0 }, k.1)) (λ a y. token_if y.token) (λ (y : Allocation). plain y.user y.port y.granted y.tx) (λ y. Unit {0}) (λ a y. IsSomeAnd y.token (FitsTokenOf (a.port + 1))) (codec_allocation b range is_even) (allocation_passes b is_even)
    (λ a none. codec_as (token_at (a.port + 1)) (λ k. k.0) (FitsTokenOf (a.port + 1)) (λ k. record { user = a.user; port = a.port; granted = a.granted; tx = a.tx; token = Some k }) (λ y. token_if y.token) (Paired a) (codec_token (a.port + 1))
    (λ k is. refl) (λ k is. ((tt, λ i. record { user = a.user; port = a.port; granted = a.granted; tx = a.tx; token = sym none i }), is)) (from_token a)))
    (λ y. refl) (λ y h. h.1) (λ y h. (tt, h))

-- ---- Bodies of acts

abbrev FitsTagged : Bounds → ℕ → PlainAct → Type 0
FitsTagged b t d = (tag d ≡ t) × IsActInRange b d

-- an act that is made of what was read
abbrev Made : {A : Type 0} → (A → Type 0) → (A → PlainAct) → PlainAct → Type 0
Made {A} f make d = (x : A) × (d ≡ make x) × f x

even_body : (b : Bounds) (a : Allocation) → FitsPair b a → body (Allocates a.user a.port a.granted a.tx a.token) ≡ pair a
even_body b a h = by_token a.token h.1
  where
    by_token : (o : Option Token) → IsSomeAnd o (FitsTokenOf (a.port + 1)) → body (Allocates a.user a.port a.granted a.tx o) ≡ allocation a ++ token_if o
    by_token None h = absurd h
    by_token (Some token) h = refl

even_fits : (b : Bounds) (a : Allocation) → FitsPair b a → FitsTagged b 5 (Allocates a.user a.port a.granted a.tx a.token)
even_fits b a h = by_token a.token h.1
  where
    by_token : (o : Option Token) → IsSomeAnd o (FitsTokenOf (a.port + 1)) → FitsTagged b 5 (Allocates a.user a.port a.granted a.tx o)
    by_token None h = absurd h
    by_token (Some token) k = (refl, allocation_fits b is_even (plain a.user a.port a.granted a.tx) (Some token) h.0 (even_is a.port h.0.free, k.1))

-- what an act of each tag is made of
abbrev Parts : Bounds → ℕ → PlainAct → Type 0
Parts b zero d = ⊥
Parts b (suc zero) d = Made (FitsAllocation b (λ port. true)) (λ a. Allocates a.user a.port a.granted a.tx None) d
Parts b (suc (suc zero)) d = Made IsRenewed Renews d
Parts b (suc (suc (suc zero))) d = Made (FitsAddresses b) Permits d
Parts b (suc (suc (suc (suc zero)))) d = Made FitsBinding (λ a. Binds a.number a.peer) d
Parts b (suc (suc (suc (suc (suc t))))) d = Made (FitsPair b) (λ a. Allocates a.user a.port a.granted a.tx a.token) d

parts : (b : Bounds) (d : PlainAct) → IsActInRange b d → Parts b (tag d) d
parts b (Allocates user port granted tx None) h = (plain user port granted tx, refl, fits_allocation b (λ p. true) user port granted tx None h refl)
parts b (Allocates user port granted tx (Some token)) h = (
  record { user = user; port = port; granted = granted; tx = tx; token = Some token },
  refl,
  (fits_allocation b is_even user port granted tx (Some token) h (eq-eqb _ _ h.4.0), (next_small port h.1 h.4.0, h.4.1)),
)
parts b (Renews granted) h = (granted, refl, h)
parts b (Permits xs) h = (xs, refl, (h.0.0, h.0.1, after_distinct [] xs (recursion_from_All (λ x. x < 2 ^ 32) xs h.0.2) h.1 (none_before xs)))
parts b (Binds number peer) h = (record { number = number; peer = peer }, refl, (h.0, h.1))

tagged_parts : (b : Bounds) (t : ℕ) (d : PlainAct) → FitsTagged b t d → Parts b t d
tagged_parts b t d h = subst (λ k. Parts b k d) h.0 (parts b d h.1)

-- the max size of a body, in bytes
abbrev body_size : Bounds → ℕ
body_size b = 28 + b.name_bytes + 4 * b.permissions

codec_body : {U : Type 0} (b : Bounds) → (U → AreInRange b) → (t : ℕ) → (1 ≤ t) × (t ≤ 5) → Codec U (body_at b t) body (FitsTagged b t) (body_size b)
unfolding body_at
codec_body b range zero h = absurd (omega (arith, h.0))
codec_body b range (suc zero) h =
    at_most _ _ _ _
    (codec_as (allocation_at b (λ port. true)) allocation (FitsAllocation b (λ port. true)) (λ a. Allocates a.user a.port a.granted a.tx None) body (FitsTagged b 1) (codec_allocation b range (λ port. true)) (λ a h. refl)
    (λ a h. (refl, allocation_fits b (λ port. true) a None h tt)) (tagged_parts b 1))
    (omega arith)
codec_body b range (suc (suc zero)) h = at_most _ _ _ _ (codec_as renewed_at (to_be_bytes w32) IsRenewed Renews body (FitsTagged b 2) codec_renewed (λ g h. refl) (λ g h. (refl, h)) (tagged_parts b 2)) (omega arith)
codec_body b range (suc (suc (suc zero))) h =
    at_most _ _ _ _
    (codec_as (addresses_at b) addresses (FitsAddresses b) Permits body (FitsTagged b 3) (codec_addresses b range) (λ xs h. refl)
    (λ xs h. let p = distinct_after [] xs h.2 in (refl, ((h.0, h.1, All-from_recursion (λ x. x < 2 ^ 32) xs p.0), p.1))) (tagged_parts b 3))
    (omega arith)
codec_body b range (suc (suc (suc (suc zero)))) h =
    at_most _ _ _ _ (codec_as binding_at binding FitsBinding (λ a. Binds a.number a.peer) body (FitsTagged b 4) codec_binding (λ a h. refl) (λ a h. (refl, h)) (tagged_parts b 4)) (omega arith)
codec_body b range (suc (suc (suc (suc (suc zero))))) h =
    at_most _ _ _ _ (codec_as (pair_at b) pair (FitsPair b) (λ a. Allocates a.user a.port a.granted a.tx a.token) body (FitsTagged b 5) (codec_pair b range) (even_body b) (even_fits b) (tagged_parts b 5)) (omega arith)
codec_body b range (suc (suc (suc (suc (suc (suc t)))))) h = absurd (omega (arith, h.1))

max_tag_small : (v : Version) → max_tag v ≤ 5
max_tag_small V1 = omega arith
max_tag_small V2 = omega arith

abbrev IsTagOf : Version → ℕ → Type 0
IsTagOf v t = (1 ≤ t) × (t ≤ max_tag v)

codec_tag : {U : Type 0} (v : Version) → Codec U (tag_at v) one (IsTagOf v) 1
unfolding tag_at
codec_tag v =
    in_words _ _ _ _ _ (codec_judged byte_at one (λ n. n < 256) (λ n. leb 1 n && leb n (max_tag v)) BadTag refl codec_byte)
    (λ n. refl) (λ n h. let p = and_is _ _ h.1 in (leb-true _ _ p.0, leb-true _ _ p.1)) (λ n h. (omega (arith, h.1, max_tag_small v), and_from _ _ (le-leb _ _ h.0) (le-leb _ _ h.1)))

tag_passes : (v : Version) → Passes (tag_at v) (λ t. (1 ≤ t) × (t ≤ 5))
unfolding tag_at
tag_passes v bytes t rest e =
    let p = and_is _ _ (good_passes byte_at (λ n. leb 1 n && leb n (max_tag v)) BadTag bytes t rest e) in
    (leb-true _ _ p.0, omega (arith, leb-true _ _ p.1, max_tag_small v))

abbrev FitsMoment : List Event → ℕ → Type 0
FitsMoment before m = (m < end_of_moments) × (last_passes (λ last. leb last.moment m) before ≡ true)

codec_after : {U : Type 0} (before : List Event) → Codec U (moment_after before) (to_be_bytes w64) (FitsMoment before) 8
unfolding moment_after
codec_after before = codec_judged moment_at (to_be_bytes w64) (λ m. m < end_of_moments) (λ m. last_passes (λ last. leb last.moment m) before) OutOfOrder refl codec_moment

-- after others: its moment is not below theirs, and the version can hold it
pub record FitsAfter (v : Version) (b : Bounds) (before : List Event) (e : Event) : Type 0 where
  pub writes : Writes v e.act
  pub fits : IsInRange b e
  pub later : last_passes (λ last. leb last.moment e.moment) before ≡ true

-- a version has the tags of the acts that it can hold
tag_range : (v : Version) (d : PlainAct) → Writes v d → IsTagOf v (tag d)
tag_range V1 (Allocates user port granted tx None) writes = (omega arith, omega arith)
tag_range V1 (Allocates user port granted tx (Some token)) writes = absurd cc
tag_range V1 (Renews granted) writes = (omega arith, omega arith)
tag_range V1 (Permits xs) writes = (omega arith, omega arith)
tag_range V1 (Binds number peer) writes = (omega arith, omega arith)
tag_range V2 (Allocates user port granted tx None) writes = (omega arith, omega arith)
tag_range V2 (Allocates user port granted tx (Some token)) writes = (omega arith, omega arith)
tag_range V2 (Renews granted) writes = (omega arith, omega arith)
tag_range V2 (Permits xs) writes = (omega arith, omega arith)
tag_range V2 (Binds number peer) writes = (omega arith, omega arith)

writes_of : (v : Version) (d : PlainAct) → tag d ≤ max_tag v → Writes v d
writes_of V2 d small = tt
writes_of V1 (Allocates user port granted tx None) small = refl
writes_of V1 (Allocates user port granted tx (Some token)) small = absurd (omega (arith, small))
writes_of V1 (Renews granted) small = tt
writes_of V1 (Permits xs) small = tt
writes_of V1 (Binds number peer) small = tt

pub codec_event : {U : Type 0} (v : Version) (b : Bounds) → (U → AreInRange b) → (before : List Event) → Codec U (event_at v b before) act_entry (FitsAfter v b before) (21 + body_size b)
unfolding event_at
codec_event v b range before =
    at_most _ _ _ _
    (in_words (event_at v b before) _ act_entry _ (FitsAfter v b before)
    (chain_by (tag_at v) one (IsTagOf v) (λ t bytes. moment_after before bytes >>= λ m. tuple_at m.1 >>= λ f. body_at b t f.1 >>= λ d. Ok (record { moment = m.0; tuple = f.0; act = d.0 }, d.1)) _ (λ (e : Event). tag e.act) (λ e. Unit {0}) _ (codec_tag v) (tag_passes v)
    (λ t some. chain (moment_after before) (to_be_bytes w64) (FitsMoment before) (λ m bytes. tuple_at bytes >>= λ f. body_at b t f.1 >>= λ d. Ok (record { moment = m; tuple = f.0; act = d.0 }, d.1)) _ (λ (e : Event). e.moment) (λ e. Unit {0} × (tag e.act ≡ t)) _ (codec_after before)
    (λ m. chain tuple_at five_tuple IsTuple (λ f bytes. body_at b t bytes >>= λ d. Ok (record { moment = m; tuple = f; act = d.0 }, d.1)) (λ f e. body e.act ++ []) (λ (e : Event). e.tuple) (λ e. (Unit {0} × (tag e.act ≡ t)) × (e.moment ≡ m)) (λ f e. FitsTagged b t e.act) codec_tuple
    (λ f. in_words _ _ _ _ _ (chain (body_at b t) body (FitsTagged b t) (λ d bytes. Ok (record { moment = m; tuple = f; act = d }, bytes)) _ (λ (e : Event). e.act) (λ e. (e.moment ≡ m) × (e.tuple ≡ f)) _ (codec_body b range t some)
    (λ d. made (record { moment = m; tuple = f; act = d }) (λ e. ((e.moment ≡ m) × (e.tuple ≡ f)) × (e.act ≡ d)) ((refl, refl), refl) (λ e h. rw (← h.0.0, ← h.0.1, ← h.1) refl)))
    (λ e. refl) (λ e h. ((((tt, h.1.0.0), h.0.0), h.0.1), h.1.0)) (λ e h. ((h.0.0.1, h.0.1), (h.1, tt)))))))
    (λ e. refl) (λ e h. record { writes = writes_of v e.act h.1.0.1; fits = record { moment = h.1.1.0.0; tuple = h.1.1.1.0; act = h.1.1.1.1.1 }; later = h.1.1.0.1 })
    (λ e h. (tt, (tag_range v e.act h.writes, ((h.fits.moment, h.later), (h.fits.tuple, (refl, h.fits.act)))))))
    (omega arith)

-- the events of a payload, as they are read
pub record FitsPayload (v : Version) (b : Bounds) (es : List Event) : Type 0 where
  pub some : 0 < length es
  pub few : length es ≤ b.acts
  pub each : EachAfter (FitsAfter v b) [] es

pub codec_events : {U : Type 0} (v : Version) (b : Bounds) → (U → AreInRange b) → Codec U (events_at v b) payload (FitsPayload v b) (1 + b.acts * (21 + body_size b))
unfolding events_at
codec_events v b range =
    in_words (events_at v b) _ payload _ (FitsPayload v b) (codec_counted (count_at 1 b.acts) one (λ n. (1 ≤ n) × (n ≤ b.acts)) b.acts (event_at v b) act_entry (FitsAfter v b) (codec_count 1 b.acts (λ under. omega (arith, (range under).acts.1))) (count_passes 1 b.acts) (codec_event v b range))
    (λ xs. refl) (λ xs h. record { some = omega (arith, h.0.0); few = h.0.1; each = h.1 }) (λ xs h. ((omega (arith, h.some), h.few), h.each))

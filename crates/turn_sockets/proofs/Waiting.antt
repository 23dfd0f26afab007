-- Queues of datagrams, by the address that these were sent to.
use Rattle.std.proofs.Common.{arith, ◌&&◌, ◌||◌, inl, inr, ◌≡◌, ◌≢◌, ℕ, zero, suc, ◌+◌, ◌-◌, ◌<◌, ◌≤◌, ◌⊎◌, ◌==◌, ⊎_elim, Bool, true, false, not, cond, if◌then◌else◌, nat_lt, Some, None, Option, Result, Ok, Err, position, List, [], ◌∷◌, ◌++◌, length, map, filter, get_or, set, refl, sym, ap, ◌∙◌, append-nil}
use Rattle.std.specs.List.{position_or_len}
use Rattle.std.specs.Option.{option_map_or}
use Rattle.std.proofs.lemmas.Bool.{and_parts, both_ways, cases_eq, cases_lt, le-leb, lt-leb, ltb-false, ne_eqb, or_from, or_parts, true≢false}
use Rattle.std.proofs.lemmas.Bool.Decides.{nat_tests}
use Rattle.std.proofs.lemmas.Option.{slice_get-get_or}
use Rattle.std.proofs.lemmas.List.{length-map, map-append}
use Rattle.std.proofs.lemmas.List.Elements.{filter-append}
use Rattle.std.proofs.lemmas.List.Folds.{list_any_at, list_any_none}
use Rattle.std.proofs.lemmas.List.Quantifiers.{position-Some}
use Rattle.std.proofs.lemmas.List.Sums.{fails_before_first, length-filter}
use Rattle.turn_types.specs.declared.address.Endpoint.{Endpoint}
use Rattle.turn_types.specs.declared.address.FiveTuple.{FiveTuple}
use Rattle.turn_sockets.specs.Backlog.{AreApart, IsNext, QueueState, bytes_of, count_of, datagrams_at, has_queue, has_some, if_same, is_same, is_same_tuple, steps_to}
use Rattle.turn_sockets.proofs.Listened.{both_same, test_both}

-- ---- The same endpoint

same_is : (a b : Endpoint) → is_same a b ≡ true → a ≡ b
same_is a b same = let both = both_same a.ip b.ip a.port b.port same in (λ i. record { ip = sym both.0 i; port = sym both.1 i })

pub same_tuple_is : (f g : FiveTuple) → is_same_tuple f g ≡ true → f ≡ g
same_tuple_is f g same =
    let both = and_parts (is_same f.client g.client) (is_same f.server g.server) same in
    let client = same_is f.client g.client both.0 in
    let server = same_is f.server g.server both.1 in
    (λ i. record { client = client i; server = server i })

same_self : (a : Endpoint) → is_same a a ≡ true
same_self a = test_both a.ip a.ip a.port a.port (refl, refl)

swapped : (a b : Endpoint) → is_same a b ≡ false → is_same b a ≡ false
swapped a b other = grind (arith, nat_tests)

-- what is the same as one isn't the same as another
other_same : (a b c : Endpoint) → is_same a b ≡ false → is_same a c ≡ true → is_same b c ≡ false
other_same a b c apart same = ap (λ (e : Endpoint). is_same b e) (sym (same_is a c same)) ∙ swapped a b apart

-- ---- A queue and its place

module _ (server : Endpoint) where
  -- the first queue of an address is the one that is found
  pub at_place : (qs : List QueueState) (place : ℕ) (d : QueueState) → place < length qs → is_same (get_or qs place d).server server ≡ true
      → ((k : ℕ) → k < place → is_same (get_or qs k d).server server ≡ false) → datagrams_at qs server ≡ (get_or qs place d).datagrams
  at_place [] place d within is before = absurd (omega arith)
  at_place (q ∷ qs) zero d within is before = ap (λ b. if b then q.datagrams else datagrams_at qs server) is
  at_place (q ∷ qs) (suc place) d within is before =
      ap (λ b. if b then q.datagrams else datagrams_at qs server) (before 0 (omega arith)) ∙ at_place qs place d (omega arith) is (λ k less. before (suc k) (omega arith))

  -- and once it is another one of that address, it alone has changed
  pub set_place : (qs : List QueueState) (place : ℕ) (d new : QueueState) (other : Endpoint) → place < length qs → is_same (get_or qs place d).server server ≡ true
      → ((k : ℕ) → k < place → is_same (get_or qs k d).server server ≡ false) → new.server ≡ (get_or qs place d).server
      → datagrams_at (set qs place new) other ≡ (if is_same server other then new.datagrams else datagrams_at qs other)
  set_place [] place d new other within is before same = absurd (omega arith)
  set_place (q ∷ qs) zero d new other within is before same = by (is_same server other) refl
    where
      at : q.server ≡ server
      at = same_is q.server server is

      by : (r : Bool) → is_same server other ≡ r → (if is_same new.server other then new.datagrams else datagrams_at qs other) ≡ (if r then new.datagrams else (if is_same q.server other then q.datagrams else datagrams_at qs other))
      by true found = ap (λ b. if b then new.datagrams else datagrams_at qs other) (ap (λ (e : Endpoint). is_same e other) (same ∙ at) ∙ found)
      by false none =
          ap (λ b. if b then new.datagrams else datagrams_at qs other) (ap (λ (e : Endpoint). is_same e other) (same ∙ at) ∙ none)
          ∙ sym (ap (λ b. if b then q.datagrams else datagrams_at qs other) (ap (λ (e : Endpoint). is_same e other) at ∙ none))
  set_place (q ∷ qs) (suc place) d new other within is before same =
      by (is_same q.server other) refl (set_place qs place d new other (omega arith) is (λ k less. before (suc k) (omega arith)) same)
    where
      by : (r : Bool) → is_same q.server other ≡ r → datagrams_at (set qs place new) other ≡ (if is_same server other then new.datagrams else datagrams_at qs other)
          → (if r then q.datagrams else datagrams_at (set qs place new) other) ≡ (if is_same server other then new.datagrams else (if r then q.datagrams else datagrams_at qs other))
      by true found later = sym (ap (λ b. if b then new.datagrams else q.datagrams) (other_same q.server server other (before 0 (omega arith)) found))
      by false none later = later

-- where the queue of an address is found, and where there is none
module _ (server : Endpoint) (qs : List QueueState) where
  pub found : (place : ℕ) (d : QueueState) → position (λ (q : QueueState). is_same q.server server) qs ≡ Some place → datagrams_at qs server ≡ (get_or qs place d).datagrams
  found place d is = let at = position-Some (λ (q : QueueState). is_same q.server server) qs place d is in at_place server qs place d at.0 at.1 at.2

  pub set_found : (place : ℕ) (d new : QueueState) (other : Endpoint) → position (λ (q : QueueState). is_same q.server server) qs ≡ Some place → new.server ≡ (get_or qs place d).server
      → datagrams_at (set qs place new) other ≡ (if is_same server other then new.datagrams else datagrams_at qs other)
  set_found place d new other is same = let at = position-Some (λ (q : QueueState). is_same q.server server) qs place d is in set_place server qs place d new other at.0 at.1 at.2 same

-- where the queue of an address is found, there is one
pub is_found : (server : Endpoint) (qs : List QueueState) (place : ℕ) → position (λ (q : QueueState). is_same q.server server) qs ≡ Some place → has_queue qs server ≡ true
is_found server qs place is =
    let d : QueueState = record { server = server; datagrams = [] } in
    let at = position-Some (λ (q : QueueState). is_same q.server server) qs place d is in list_any_at (λ (q : QueueState). is_same q.server server) qs place d at.0 at.1

no_queue : (server : Endpoint) (qs : List QueueState) → has_queue qs server ≡ false → datagrams_at qs server ≡ []
no_queue server [] none = refl
no_queue server (q ∷ qs) none =
    let neither = or_parts (is_same q.server server) (has_queue qs server) none in ap (λ b. if b then q.datagrams else datagrams_at qs server) neither.0 ∙ no_queue server qs neither.1

pub none_found : (server : Endpoint) (qs : List QueueState) → position (λ (q : QueueState). is_same q.server server) qs ≡ None → has_queue qs server ≡ false
none_found server qs none =
    list_any_none (λ (q : QueueState). is_same q.server server) qs
    (λ k d within. fails_before_first (λ (q : QueueState). is_same q.server server) qs k d (let past = by_test (nat_lt (position_or_len (λ (q : QueueState). is_same q.server server) qs) (length qs)) refl none in omega arith))
  where
    by_test : (r : Bool) → nat_lt (position_or_len (λ (q : QueueState). is_same q.server server) qs) (length qs) ≡ r → cond r (Some (position_or_len (λ (q : QueueState). is_same q.server server) qs)) None ≡ None
        → length qs ≤ position_or_len (λ (q : QueueState). is_same q.server server) qs
    by_test true within is = absurd (cc)
    by_test false past is = ltb-false (position_or_len (λ (q : QueueState). is_same q.server server) qs) (length qs) past

pub nothing_at : (server : Endpoint) (qs : List QueueState) → position (λ (q : QueueState). is_same q.server server) qs ≡ None → datagrams_at qs server ≡ []
nothing_at server qs none = no_queue server qs (none_found server qs none)

-- ---- What waits of a five-tuple

pub length-bytes_of : (client : Endpoint) (datagrams : List (Endpoint × List ℕ)) → length (bytes_of client datagrams) ≡ count_of client datagrams
length-bytes_of client datagrams =
    length-map (filter (λ (d : Endpoint × List ℕ). is_same d.0 client) datagrams) (λ (d : Endpoint × List ℕ). d.1) ∙ length-filter (λ (d : Endpoint × List ℕ). is_same d.0 client) datagrams

-- one more datagram
bytes_of_one : (client : Endpoint) (d : Endpoint × List ℕ) → bytes_of client (d ∷ []) ≡ (if is_same d.0 client then d.1 ∷ [] else [])
bytes_of_one client d = by (is_same d.0 client)
  where
    by : (r : Bool) → map (λ (e : Endpoint × List ℕ). e.1) (cond r (d ∷ []) []) ≡ (if r then d.1 ∷ [] else [])
    by true = refl
    by false = refl

bytes_of-append : (client : Endpoint) (ds es : List (Endpoint × List ℕ)) → bytes_of client (ds ++ es) ≡ bytes_of client ds ++ bytes_of client es
bytes_of-append client ds es =
    ap (λ l. map (λ (e : Endpoint × List ℕ). e.1) l) (filter-append (λ (d : Endpoint × List ℕ). is_same d.0 client) ds es)
    ∙ map-append (λ (e : Endpoint × List ℕ). e.1) (filter (λ (d : Endpoint × List ℕ). is_same d.0 client) ds) (filter (λ (d : Endpoint × List ℕ). is_same d.0 client) es)

-- of one address the client alone tells five-tuples apart, and those of others have none of it
of_client : (client server : Bool) (bytes : List ℕ) → server ≡ true → (if client && server then bytes ∷ [] else []) ≡ (if client then bytes ∷ [] else [])
of_client true server bytes is = ap (λ b. if b then bytes ∷ [] else []) is
of_client false server bytes is = refl

of_none : (client server : Bool) (bytes : List ℕ) → server ≡ false → (if client && server then bytes ∷ [] else []) ≡ []
of_none true server bytes is = ap (λ b. if b then bytes ∷ [] else []) is
of_none false server bytes is = refl

module _ (qs new : List QueueState) (f : FiveTuple) (bytes : List ℕ) (g : FiveTuple) where
  -- a datagram waits after the others of its address
  last_by : (r : Bool) → is_same f.server g.server ≡ r → datagrams_at new g.server ≡ (if r then datagrams_at qs f.server ++ (f.client, bytes) ∷ [] else datagrams_at qs g.server)
      → bytes_of g.client (datagrams_at new g.server) ≡ bytes_of g.client (datagrams_at qs g.server) ++ if_same f g bytes
  last_by true same at =
      ap (λ l. bytes_of g.client l) at
      ∙ bytes_of-append g.client (datagrams_at qs f.server) ((f.client, bytes) ∷ [])
      ∙ ap (λ (e : Endpoint). bytes_of g.client (datagrams_at qs e) ++ bytes_of g.client ((f.client, bytes) ∷ [])) (same_is f.server g.server same)
      ∙ ap (λ l. bytes_of g.client (datagrams_at qs g.server) ++ l) (bytes_of_one g.client (f.client, bytes) ∙ sym (of_client (is_same f.client g.client) (is_same f.server g.server) bytes same))
  last_by false other at =
      ap (λ l. bytes_of g.client l) at ∙ sym (append-nil (bytes_of g.client (datagrams_at qs g.server)))
      ∙ ap (λ l. bytes_of g.client (datagrams_at qs g.server) ++ l) (sym (of_none (is_same f.client g.client) (is_same f.server g.server) bytes other))

  -- and the first one is taken
  first_by : (r : Bool) → is_same f.server g.server ≡ r → datagrams_at new g.server ≡ (if r then datagrams_at new f.server else datagrams_at qs g.server)
      → datagrams_at qs f.server ≡ (f.client, bytes) ∷ datagrams_at new f.server
      → bytes_of g.client (datagrams_at qs g.server) ≡ if_same f g bytes ++ bytes_of g.client (datagrams_at new g.server)
  first_by true same at first =
      ap (λ (e : Endpoint). bytes_of g.client (datagrams_at qs e)) (sym (same_is f.server g.server same))
      ∙ ap (λ l. bytes_of g.client l) first
      ∙ bytes_of-append g.client ((f.client, bytes) ∷ []) (datagrams_at new f.server)
      ∙ ap (λ l. l ++ bytes_of g.client (datagrams_at new f.server)) (bytes_of_one g.client (f.client, bytes) ∙ sym (of_client (is_same f.client g.client) (is_same f.server g.server) bytes same))
      ∙ ap (λ l. if_same f g bytes ++ bytes_of g.client l) (sym at)
  first_by false other at first =
      ap (λ l. bytes_of g.client l) (sym at)
      ∙ ap (λ l. l ++ bytes_of g.client (datagrams_at new g.server)) (sym (of_none (is_same f.client g.client) (is_same f.server g.server) bytes other))

module _ (qs : List QueueState) (f : FiveTuple) (place : ℕ) (d q : QueueState) (bytes : List ℕ) where
  -- a datagram is added to the queue of its address
  pub pushed : position (λ (p : QueueState). is_same p.server f.server) qs ≡ Some place → q ≡ record (get_or qs place d) { datagrams = (get_or qs place d).datagrams ++ (f.client, bytes) ∷ [] }
      → (g : FiveTuple) → bytes_of g.client (datagrams_at (set qs place q) g.server) ≡ bytes_of g.client (datagrams_at qs g.server) ++ if_same f g bytes
  pushed at is g =
      let more : q.datagrams ≡ datagrams_at qs f.server ++ (f.client, bytes) ∷ [] = ap (λ (r : QueueState). r.datagrams) is ∙ ap (λ l. l ++ (f.client, bytes) ∷ []) (sym (found f.server qs place d at)) in
      last_by qs (set qs place q) f bytes g (is_same f.server g.server) refl
      (set_found f.server qs place d q g.server at (ap (λ (r : QueueState). r.server) is) ∙ ap (λ l. if is_same f.server g.server then l else datagrams_at qs g.server) more)

-- what was looked for is where it is said to be
pub place_is : {qs seen : List QueueState} (server : Endpoint) (result place : Option ℕ) → seen ≡ qs → result ≡ position (λ (q : QueueState). is_same q.server server) seen → result ≡ place
    → position (λ (q : QueueState). is_same q.server server) qs ≡ place
place_is server result place same test was = ap (λ (l : List QueueState). position (λ (q : QueueState). is_same q.server server) l) (sym same) ∙ sym test ∙ was

-- ---- Queues of different addresses

has_queue-set : (qs : List QueueState) (place : ℕ) (d new : QueueState) (server : Endpoint) → place < length qs → new.server ≡ (get_or qs place d).server → has_queue (set qs place new) server ≡ has_queue qs server
has_queue-set [] place d new server within same = refl
has_queue-set (q ∷ qs) zero d new server within same = ap (λ (e : Endpoint). is_same e server || has_queue qs server) same
has_queue-set (q ∷ qs) (suc place) d new server within same = ap (λ b. is_same q.server server || b) (has_queue-set qs place d new server (omega arith) same)

pub apart-set : (qs : List QueueState) (place : ℕ) (d new : QueueState) → place < length qs → new.server ≡ (get_or qs place d).server → AreApart qs → AreApart (set qs place new)
apart-set [] place d new within same apart = apart
apart-set (q ∷ qs) zero d new within same apart = (ap (λ (e : Endpoint). has_queue qs e) same ∙ apart.0, apart.1)
apart-set (q ∷ qs) (suc place) d new within same apart = (has_queue-set qs place d new q.server (omega arith) same ∙ apart.0, apart-set qs place d new (omega arith) same apart.1)

has_queue-append : (qs : List QueueState) (q : QueueState) (server : Endpoint) → has_queue qs server ≡ false → is_same q.server server ≡ false → has_queue (qs ++ q ∷ []) server ≡ false
has_queue-append [] q server none other = ap (λ b. b || false) other
has_queue-append (p ∷ qs) q server none other =
    let neither = or_parts (is_same p.server server) (has_queue qs server) none in or_from (is_same p.server server) (has_queue (qs ++ q ∷ []) server) neither.0 (has_queue-append qs q server neither.1 other)

-- a queue for an address of which there is none
pub apart-append : (qs : List QueueState) (q : QueueState) → AreApart qs → has_queue qs q.server ≡ false → AreApart (qs ++ q ∷ [])
apart-append [] q apart none = (refl, tt)
apart-append (p ∷ qs) q apart none =
    let neither = or_parts (is_same p.server q.server) (has_queue qs q.server) none in
    (has_queue-append qs q p.server apart.0 (swapped p.server q.server neither.0), apart-append qs q apart.1 neither.1)

none_at : (qs : List QueueState) (place : ℕ) (d : QueueState) (server : Endpoint) → has_queue qs server ≡ false → place < length qs → is_same (get_or qs place d).server server ≡ false
none_at [] place d server none within = absurd (omega arith)
none_at (q ∷ qs) zero d server none within = (or_parts (is_same q.server server) (has_queue qs server) none).0
none_at (q ∷ qs) (suc place) d server none within = none_at qs place d server (or_parts (is_same q.server server) (has_queue qs server) none).1 (omega arith)

-- of those that are apart each is the first of its address
apart_before : (qs : List QueueState) (place : ℕ) (d : QueueState) → AreApart qs → place < length qs → (k : ℕ) → k < place → is_same (get_or qs k d).server (get_or qs place d).server ≡ false
apart_before [] place d apart within k less = absurd (omega arith)
apart_before (q ∷ qs) zero d apart within k less = absurd (omega arith)
apart_before (q ∷ qs) (suc place) d apart within zero less = swapped (get_or qs place d).server q.server (none_at qs place d q.server apart.0 (omega arith))
apart_before (q ∷ qs) (suc place) d apart within (suc k) less = apart_before qs place d apart.1 (omega arith) k (omega arith)

-- the first datagram of a queue is taken
module _ (qs : List QueueState) (place : ℕ) (d q : QueueState) (client : Endpoint) (bytes : List ℕ) (apart : AreApart qs) (within : place < length qs)
    (is : get_or qs place d ≡ record q { datagrams = (client, bytes) ∷ q.datagrams }) where
  pub popped : (g : FiveTuple) → let f : FiveTuple = record { client = client; server = (get_or qs place d).server } in
      bytes_of g.client (datagrams_at qs g.server) ≡ if_same f g bytes ++ bytes_of g.client (datagrams_at (set qs place q) g.server)
  popped g =
      let server = (get_or qs place d).server in
      let at = at_place server qs place d within (same_self server) (apart_before qs place d apart within) in
      let after = λ (other : Endpoint). set_place server qs place d q other within (same_self server) (apart_before qs place d apart within) (sym (ap (λ (r : QueueState). r.server) is)) in
      let here : datagrams_at (set qs place q) server ≡ q.datagrams = after server ∙ ap (λ b. if b then q.datagrams else datagrams_at qs server) (same_self server) in
      first_by qs (set qs place q) (record { client = client; server = server }) bytes g (is_same server g.server) refl
      (after g.server ∙ ap (λ l. if is_same server g.server then l else datagrams_at qs g.server) (sym here))
      (at ∙ ap (λ (r : QueueState). r.datagrams) is ∙ ap (λ l. (client, bytes) ∷ l) (sym here))

  pub popped_apart : AreApart (set qs place q)
  popped_apart = apart-set qs place d q within (sym (ap (λ (r : QueueState). r.server) is)) apart

-- ---- Turns

-- the queue at a place comes nearer its turn, if it isn't the one that is taken
pub nearer : (count turn place taken : ℕ) → turn ≤ count → place < count → (turn ≤ taken → turn ≤ place → taken ≤ place) → (taken < turn → (place < turn) × (taken ≤ place)) → taken < count
    → (taken + 1 ≡ place + 1) ⊎ (steps_to count (taken + 1) place < steps_to count turn place)
nearer count turn place taken early within first second some = by (cases_lt place turn) (cases_lt taken place)
  where
    steps_from : (t : ℕ) → t ≤ place → steps_to count t place ≡ place - t
    steps_from t before = ap (λ b. if b then place - t else (count + place) - t) (le-leb t place before)

    steps_round : (t : ℕ) → place < t → steps_to count t place ≡ (count + place) - t
    steps_round t past = ap (λ b. if b then place - t else (count + place) - t) (lt-leb t place past)

    by : (place < turn) ⊎ (turn ≤ place) → (taken < place) ⊎ (place ≤ taken) → (taken + 1 ≡ place + 1) ⊎ (steps_to count (taken + 1) place < steps_to count turn place)
    by (inl past) (inl before) = inr (let new = steps_from (taken + 1) (omega arith) in let old = steps_round turn past in omega arith)
    by (inr later) (inl before) =
        ⊎_elim (λ low. let both = second low in absurd (omega arith)) (λ high. inr (let new = steps_from (taken + 1) (omega arith) in let old = steps_from turn later in omega arith)) (cases_lt taken turn)
    by (inl past) (inr after) =
        ⊎_elim (λ same. inl (omega arith)) (λ other. inr (let new = steps_round (taken + 1) (omega arith) in let old = steps_round turn past in ⊎_elim (λ low. let both = second low in absurd (omega arith)) (λ high. omega arith) (cases_lt taken turn)))
        (cases_eq taken place)
    by (inr later) (inr after) =
        ⊎_elim (λ same. inl (omega arith)) (λ other. ⊎_elim (λ low. let both = second low in absurd (omega arith)) (λ high. let least = first high later in absurd (omega arith)) (cases_lt taken turn))
        (cases_eq taken place)

-- whether it was done or not, the queue is that of the address
pub same_server : {E : Type 0} (done : Result Bool E) (q new : QueueState) (datagrams : List (Endpoint × List ℕ)) → (done ≡ Ok true → new ≡ record q { datagrams = datagrams }) → (done ≢ Ok true → new ≡ q) → new.server ≡ q.server
same_server (Ok true) q new datagrams is not = ap (λ (r : QueueState). r.server) (is refl)
same_server (Ok false) q new datagrams is not = ap (λ (r : QueueState). r.server) (not (λ same. absurd cc))
same_server (Err e) q new datagrams is not = ap (λ (r : QueueState). r.server) (not (λ same. absurd cc))

pub place_within : (server : Endpoint) (qs : List QueueState) (place : ℕ) (d : QueueState) → position (λ (q : QueueState). is_same q.server server) qs ≡ Some place → place < length qs
place_within server qs place d is = (position-Some (λ (q : QueueState). is_same q.server server) qs place d is).0

-- a queue without datagrams
pub empty-append : (qs : List QueueState) (q : QueueState) (e : Endpoint) → q.datagrams ≡ [] → datagrams_at qs e ≡ [] → datagrams_at (qs ++ q ∷ []) e ≡ []
empty-append [] q e none all = by (is_same q.server e)
  where
    by : (r : Bool) → (if r then q.datagrams else []) ≡ []
    by true = none
    by false = refl
empty-append (p ∷ qs) q e none all = by (is_same p.server e) all (λ rest. empty-append qs q e none rest)
  where
    by : (r : Bool) → (if r then p.datagrams else datagrams_at qs e) ≡ [] → (datagrams_at qs e ≡ [] → datagrams_at (qs ++ q ∷ []) e ≡ []) → (if r then p.datagrams else datagrams_at (qs ++ q ∷ []) e) ≡ []
    by true here later = here
    by false here later = later here

-- ---- The next queue

module _ (qs : List QueueState) (place : ℕ) (d : QueueState) (within : place < length qs) where
  -- a queue that has a first datagram isn't one that has none
  pub some_there : (x : Endpoint × List ℕ) (rest : List (Endpoint × List ℕ)) → (get_or qs place d).datagrams ≡ x ∷ rest → has_some qs place ≡ false → ⊥
  some_there x rest is none =
      let there = slice_get-get_or qs place d within in
      let has : has_some qs place ≡ not (length (x ∷ rest) == 0) = ap (λ (o : Option QueueState). option_map_or (λ (q : QueueState). not (length q.datagrams == 0)) o false) there ∙ ap (λ (l : List (Endpoint × List ℕ)). not (length l == 0)) is in
      let other : (length (x ∷ rest) == 0) ≡ false = ne_eqb (length (x ∷ rest)) 0 (λ same. omega arith) in
      true≢false (sym (ap not other) ∙ sym has ∙ none)

pub turns : (qs : List QueueState) (turn taken : ℕ) → IsNext qs turn taken → turn ≤ length qs → (place : ℕ) → place < length qs → has_some qs place ≡ true
    → (taken + 1 ≡ place + 1) ⊎ (steps_to (length qs) (taken + 1) place < steps_to (length qs) turn place)
turns qs turn taken next early place within some =
    nearer (length qs) turn place taken early within
    (λ after later. ⊎_elim (λ less. absurd (both_ways (has_some qs place) (next.first after place later less) some)) (λ high. high) (cases_lt place taken))
    (λ low. (
      ⊎_elim (λ less. less) (λ high. absurd (both_ways (has_some qs place) (next.around low place (inl (high, within))) some)) (cases_lt place turn),
      ⊎_elim (λ less. absurd (both_ways (has_some qs place) (next.around low place (inr less)) some)) (λ high. high) (cases_lt place taken),
    ))
    next.within

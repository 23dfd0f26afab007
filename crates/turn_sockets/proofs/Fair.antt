-- How long a socket waits for its turn.
use Rattle.std.proofs.Common.{arith, ◌≡◌, ◌≢◌, ℕ, zero, suc, ◌+◌, ◌-◌, ◌*◌, ◌<◌, ◌≤◌, ◌⊎◌, inl, inr, ◌==◌, ◌&&◌, not, Bool, true, false, if◌then◌else◌, nat_le, nat_lt, Some, None, List, [], ◌∷◌, ◌++◌, Contains, length, map, slice_get, sum_by, take, refl, sym, ap, ◌∙◌, subst, ⊎_elim, append-nil, mul-le-mul_left, mul-suc}
use Rattle.std.proofs.lemmas.Bool.{and_cases, and_parts, eqb-false, eqb-true, leb-false, leb-true, ltb-false, ltb-true}
use Rattle.std.proofs.lemmas.List.Sums.{sum_by-cons}
use Rattle.turn_sockets.specs.Schedule.{Agenda, begun, begun_for_each, can_list, counted, is_relay, since_after, is_turn_of_clients, first_of, kept_back, next_from, next_of, source_of, with_all_ready, with_more, with_ready}
use Rattle.turn_sockets.specs.declared.schedule.Source.{Source}
use Rattle.turn_sockets.specs.declared.schedule.Source.TheVariants.{Clients, Fresh, Nothing, Peers}
use Rattle.turn_sockets.specs.Fairness.{AreRounds, AreVisits, ComesWithin, EachIsVisited, FreshComeFirst, IsVisited, NoneStarves, Round, Visit, after_visit, more}

-- ---- What is next

-- why the next socket is of a source, and why there is none
abbrev Why : Agenda → Source → Type 0
-- before a fresh one only if more visits are left than are kept back, and before another one only after four others
Why a Clients = (a.clients ≢ []) × (kept_back a.fresh < a.left) × ((4 ≤ a.since) ⊎ (a.peers ≡ []))
-- though there is a listening one only if it isn't its turn
Why a Fresh = (a.fresh ≢ []) × (a.clients ≢ [] → (a.since < 4) ⊎ (a.left ≤ 2))
Why a Peers = (a.peers ≢ []) × (0 < a.left) × (a.fresh ≡ []) × (a.clients ≢ [] → a.since < 4)
Why a Nothing = (a.fresh ≡ []) × ((a.left ≡ 0) ⊎ ((a.clients ≡ []) × (a.peers ≡ [])))

none_there : (xs : List ℕ) → (length xs == 0) ≡ true → xs ≡ []
none_there [] is = refl
none_there (x ∷ xs) is = absurd (omega (arith, eqb-true (length (x ∷ xs)) 0 is))

some_there : (xs : List ℕ) → (length xs == 0) ≡ false → xs ≢ []
some_there xs some none = let empty = ap length none in absurd (omega (arith, eqb-false (length xs) 0 some))

few_kept_back : (xs : List ℕ) → kept_back xs ≤ 2
few_kept_back [] = omega arith
few_kept_back (x ∷ xs) = omega arith

module _ (a : Agenda) where
  -- a listening socket has more, but it isn't its turn
  no_turn : (none : Bool) → (length a.clients == 0) ≡ none → (not none && (nat_le 4 a.since && nat_lt (kept_back a.fresh) a.left)) ≡ false
      → a.clients ≢ [] → (a.since < 4) ⊎ (a.left ≤ kept_back a.fresh)
  no_turn true empty test some = absurd (some (none_there a.clients empty))
  no_turn false empty test some =
      ⊎_elim (λ few. inl (leb-false 4 a.since few)) (λ last. inr (ltb-false (kept_back a.fresh) a.left last))
      (and_cases (nat_le 4 a.since) (nat_lt (kept_back a.fresh) a.left) test)

  -- by what the tests come to
  why_at : (turn no_fresh none_left no_peer no_client : Bool) → is_turn_of_clients a ≡ turn → (length a.fresh == 0) ≡ no_fresh → (a.left == 0) ≡ none_left
      → (length a.peers == 0) ≡ no_peer → (length a.clients == 0) ≡ no_client
      → Why a (if turn then Clients else (if not no_fresh then Fresh else (if none_left then Nothing else (if not no_peer then Peers else (if not no_client then Clients else Nothing)))))
  why_at true no_fresh none_left no_peer no_client turn f l p c =
      let parts = and_parts (not (length a.clients == 0)) (nat_le 4 a.since && nat_lt (kept_back a.fresh) a.left) turn in
      let both = and_parts (nat_le 4 a.since) (nat_lt (kept_back a.fresh) a.left) parts.1 in
      (λ none. let empty = ap (λ (xs : List ℕ). not (length xs == 0)) none in absurd (cc), ltb-true (kept_back a.fresh) a.left both.1, inl (leb-true 4 a.since both.0))
  why_at false false none_left no_peer no_client turn f l p c =
      (some_there a.fresh f, λ some. ⊎_elim inl (λ last. let few = few_kept_back a.fresh in inr (omega arith)) (no_turn (length a.clients == 0) refl turn some))
  why_at false true true no_peer no_client turn f l p c = (none_there a.fresh f, inl (eqb-true a.left 0 l))
  why_at false true false false no_client turn f l p c =
      let none = none_there a.fresh f in
      let left = eqb-false a.left 0 l in
      let kept = ap kept_back none in
      (some_there a.peers p, omega arith, none, λ some. ⊎_elim (λ few. few) (λ last. absurd (omega arith)) (no_turn (length a.clients == 0) refl turn some))
  why_at false true false true false turn f l p c =
      let kept = ap kept_back (none_there a.fresh f) in
      let left = eqb-false a.left 0 l in
      (some_there a.clients c, omega arith, inr (none_there a.peers p))
  why_at false true false true true turn f l p c = (none_there a.fresh f, inr (none_there a.clients c, none_there a.peers p))

  why : Why a (source_of a)
  why = why_at (is_turn_of_clients a) (length a.fresh == 0) (a.left == 0) (length a.peers == 0) (length a.clients == 0) refl refl refl refl refl

-- a socket is the first of a list, and what is listed without it is made of the others
record TakesFirst (list : List ℕ) (without : ℕ → List ℕ → Agenda) (token : ℕ) (rest : Agenda) : Type 0 where
  others : List ℕ
  first : list ≡ token ∷ others
  rest_is : rest ≡ without token others

first_is : {token : ℕ} {rest : Agenda} (xs : List ℕ) (f : ℕ → List ℕ → Agenda) → first_of xs f ≡ Some (token, rest) → TakesFirst xs f token rest
first_is [] f is = absurd (cc)
first_is {token = token} {rest = rest} (x ∷ xs) f is =
    let same : ◌≡◌ {A = ℕ × Agenda} (x, f x xs) (token, rest) = cc in
    record { others = xs; first = ap (λ (p : ℕ × Agenda). p.0 ∷ xs) same; rest_is = sym (ap (λ (p : ℕ × Agenda). p.1) same) ∙ ap (λ (p : ℕ × Agenda). f p.0 xs) same }

none_first : (xs : List ℕ) (f : ℕ → List ℕ → Agenda) → first_of xs f ≡ None → xs ≡ []
none_first [] f is = refl
none_first (x ∷ xs) f is = absurd (cc)

data Takes (a : Agenda) (token : ℕ) (rest : Agenda) : Type 0 where
  of_clients : TakesFirst a.clients (λ first others. record a { clients = others; since = 0; left = a.left - 1 }) token rest → Why a Clients → Takes a token rest
  of_fresh : TakesFirst a.fresh (λ first others. record a { fresh = others; since = since_after first a.since }) token rest → Why a Fresh → Takes a token rest
  of_peers : TakesFirst a.peers (λ first others. record a { peers = others; since = counted a.since; left = a.left - 1 }) token rest → Why a Peers → Takes a token rest

-- what is next is the first of one of the three lists
takes : {a rest : Agenda} {token : ℕ} → next_of a ≡ Some (token, rest) → Takes a token rest
takes {a = a} {rest = rest} {token = token} next = by (source_of a) (why a) next
  where
    by : (source : Source) → Why a source → next_from source a ≡ Some (token, rest) → Takes a token rest
    by Clients reason is = of_clients (first_is a.clients _ is) reason
    by Fresh reason is = of_fresh (first_is a.fresh _ is) reason
    by Peers reason is = of_peers (first_is a.peers _ is) reason
    by Nothing reason is = absurd (cc)

-- a round isn't over while one of these is left
is_over : (a : Agenda) → next_of a ≡ None → Why a Nothing
is_over a over = by (source_of a) (why a) over
  where
    by : (source : Source) → Why a source → next_from source a ≡ None → Why a Nothing
    by Clients reason is = absurd (reason.0 (none_first a.clients _ is))
    by Fresh reason is = absurd (reason.0 (none_first a.fresh _ is))
    by Peers reason is = absurd (reason.0 (none_first a.peers _ is))
    by Nothing reason is = reason

-- ---- What a visit leaves as it is

-- the fresh sockets and the counts are the same, and of the others each list is the same with some more at its end
record Extends (a b : Agenda) : Type 0 where
  fresh : b.fresh ≡ a.fresh
  since : b.since ≡ a.since
  left : b.left ≡ a.left
  clients : (more : List ℕ) × (b.clients ≡ a.clients ++ more)
  peers : (more : List ℕ) × (b.peers ≡ a.peers ++ more)

same_extends : (a : Agenda) → Extends a a
same_extends a = record { fresh = refl; since = refl; left = refl; clients = ([], sym (append-nil a.clients)); peers = ([], sym (append-nil a.peers)) }

extends_if : (can relay : Bool) (a : Agenda) (token : ℕ)
    → Extends a (if can then (if relay then record a { peers = a.peers ++ token ∷ [] } else record a { clients = a.clients ++ token ∷ [] }) else a)
extends_if false relay a token = same_extends a
extends_if true true a token = record { fresh = refl; since = refl; left = refl; clients = ([], sym (append-nil a.clients)); peers = (token ∷ [], refl) }
extends_if true false a token = record { fresh = refl; since = refl; left = refl; clients = (token ∷ [], refl); peers = ([], sym (append-nil a.peers)) }

visit_extends_if : (more : Bool) (a : Agenda) (token : ℕ) → Extends a (if more then with_more a token else a)
visit_extends_if true a token = extends_if (can_list a token) (is_relay token) a token
visit_extends_if false a token = same_extends a

-- after a visit of the first of a list
extends : {list : List ℕ} {without : ℕ → List ℕ → Agenda} {token : ℕ} {rest : Agenda} (t : TakesFirst list without token rest) (v : Visit)
    → Extends (without token t.others) (after_visit rest v)
extends {without = without} {token = token} t v =
    subst (λ (b : Agenda). Extends (without token t.others) (after_visit b v)) (sym t.rest_is) (visit_extends_if (more v) (without token t.others) v.token)

-- sockets that become ready are fresh
record AddsFresh (a b : Agenda) : Type 0 where
  since : b.since ≡ a.since
  clients : b.clients ≡ a.clients
  peers : b.peers ≡ a.peers

adds_if : (can : Bool) (a : Agenda) (token : ℕ) → AddsFresh a (if can then record a { fresh = a.fresh ++ token ∷ [] } else a)
adds_if false a token = record { since = refl; clients = refl; peers = refl }
adds_if true a token = record { since = refl; clients = refl; peers = refl }

adds_all : (a : Agenda) (tokens : List ℕ) → AddsFresh a (with_all_ready a tokens)
adds_all a [] = record { since = refl; clients = refl; peers = refl }
adds_all a (token ∷ tokens) =
    let first = adds_if (can_list a token) a token in
    let others = adds_all (with_ready a token) tokens in
    record { since = others.since ∙ first.since; clients = others.clients ∙ first.clients; peers = others.peers ∙ first.peers }

-- ---- Fresh sockets come first

-- one more visit
more_visits : (most n m x y : ℕ) → x ≤ most → y ≤ most * n → suc n ≤ m → x + y ≤ most * m
more_visits most n m x y one others less =
    let scaled : most * suc n ≤ most * m = mul-le-mul_left most less in
    let step : most * suc n ≡ most * n + most = mul-suc most n in
    omega arith

-- a visit before those that come to a socket
visit_before : (token most n m : ℕ) (v : Visit) (vs : List Visit) → v.reads ≤ most → suc n ≤ m → ComesWithin token (most * n) vs → ComesWithin token (most * m) (v ∷ vs)
visit_before token most n m v vs few less comes = record {
  place = suc comes.place;
  there = comes.there;
  reads = subst (λ r. r ≤ most * m) (sym (sum_by-cons (λ (w : Visit). w.reads) v (take comes.place vs))) (more_visits most n m v.reads (sum_by (λ (w : Visit). w.reads) (take comes.place vs)) few comes.reads less);
}

not_empty : (xs : List ℕ) (place token : ℕ) → slice_get xs place ≡ Some token → xs ≢ []
not_empty xs place token there none = let same = ap (λ (l : List ℕ). slice_get l place) none in absurd (cc)

fresh_left : (xs : List ℕ) (n : ℕ) → xs ≢ [] → kept_back xs < n → 2 < n
fresh_left [] n some less = absurd (some refl)
fresh_left (x ∷ xs) n some less = less

-- a visit, after which the socket comes where others are visited before it
module _ (most token : ℕ) (a rest : Agenda) (v : Visit) (vs : List Visit) (few : v.reads ≤ most)
    (later : (place : ℕ) → 2 ≤ (after_visit rest v).left → slice_get (after_visit rest v).fresh place ≡ Some token → ComesWithin token (most * (((after_visit rest v).left - 2) + place)) vs) where
  comes_by : Takes a v.token rest → (place : ℕ) → slice_get a.fresh place ≡ Some token → 2 ≤ a.left → ComesWithin token (most * ((a.left - 2) + place)) (v ∷ vs)
  comes_by (of_clients t reason) place there enough =
      let in_turn = fresh_left a.fresh a.left (not_empty a.fresh place token there) reason.1 in
      let after = extends t v in
      visit_before token most (((after_visit rest v).left - 2) + place) ((a.left - 2) + place) v vs few (omega (arith, after.left))
      (later place (omega (arith, after.left)) (ap (λ (l : List ℕ). slice_get l place) after.fresh ∙ there))
  comes_by (of_fresh t reason) zero there enough = record {
    place = 0;
    there = sym (ap (λ (l : List ℕ). slice_get l 0) t.first) ∙ there;
    reads = omega arith;
  }
  comes_by (of_fresh t reason) (suc place) there enough =
      let after = extends t v in
      visit_before token most (((after_visit rest v).left - 2) + place) ((a.left - 2) + suc place) v vs few (omega (arith, after.left))
      (later place (omega (arith, after.left)) (ap (λ (l : List ℕ). slice_get l place) after.fresh ∙ sym (ap (λ (l : List ℕ). slice_get l (suc place)) t.first) ∙ there))
  comes_by (of_peers t reason) place there enough = absurd (not_empty a.fresh place token there reason.2)

comes : (most token : ℕ) (visits : List Visit) (a end : Agenda) (place : ℕ) → AreVisits most a visits end → next_of end ≡ None → 2 ≤ a.left → slice_get a.fresh place ≡ Some token
    → ComesWithin token (most * ((a.left - 2) + place)) visits
comes most token [] a end place same over enough there = absurd (not_empty a.fresh place token there (ap (λ (b : Agenda). b.fresh) same ∙ (is_over end over).0))
comes most token (v ∷ vs) a end place are over enough there =
    comes_by most token a are.0 v vs are.2.reads (λ next_place left at. comes most token vs (after_visit are.0 v) end next_place are.3 over left at) (takes are.1) place there enough

pub fresh_first : FreshComeFirst
fresh_first most a end visits place token are over there = comes most token visits (begun a) end place are over (omega arith) there

-- ---- No socket starves

-- a socket is visited, or at the end it is on a list at a place before this one
data Moves (token : ℕ) (visits : List Visit) (new : List ℕ) (bound : ℕ) : Type 0 where
  visited : IsVisited token visits → Moves token visits new bound
  at_place : (place : ℕ) → place < bound → slice_get new place ≡ Some token → Moves token visits new bound

visited_first : (token : ℕ) (v : Visit) (vs : List Visit) → v.token ≡ token → IsVisited token (v ∷ vs)
visited_first token v vs same = (0, omega arith, same)

longer : {token bound : ℕ} {visits : List Visit} {new : List ℕ} (v : Visit) → Moves token visits new bound → Moves token (v ∷ visits) new bound
longer v (visited there) = visited (suc there.0, let within = there.1 in omega arith, there.2)
longer v (at_place place within there) = at_place place within there

further : {token few bound : ℕ} {visits : List Visit} {new : List ℕ} → few ≤ bound → Moves token visits new few → Moves token visits new bound
further less (visited there) = visited there
further less (at_place place within there) = at_place place (omega arith) there

get_append : (xs more : List ℕ) (place token : ℕ) → slice_get xs place ≡ Some token → slice_get (xs ++ more) place ≡ Some token
get_append [] more place token there = absurd (cc)
get_append (x ∷ xs) more zero token there = there
get_append (x ∷ xs) more (suc place) token there = get_append xs more place token there

-- the first socket of a list was visited, and more may come at its end
record IsFirst (visited : ℕ) (old new : List ℕ) : Type 0 where
  others : List ℕ
  more : List ℕ
  first : old ≡ visited ∷ others
  rest : new ≡ others ++ more

-- what a visit does with one of the two lists: its first socket is visited, or none of it
data Passes (visited : ℕ) (old new : List ℕ) : Type 0 where
  takes_first : IsFirst visited old new → Passes visited old new
  leaves : (more : List ℕ) → new ≡ old ++ more → Passes visited old new

passes_clients : (a rest : Agenda) (v : Visit) → Takes a v.token rest → Passes v.token a.clients (after_visit rest v).clients
passes_clients a rest v (of_clients t reason) = let more = (extends t v).clients in takes_first (record { others = t.others; more = more.0; first = t.first; rest = more.1 })
passes_clients a rest v (of_fresh t reason) = let more = (extends t v).clients in leaves more.0 more.1
passes_clients a rest v (of_peers t reason) = let more = (extends t v).clients in leaves more.0 more.1

passes_peers : (a rest : Agenda) (v : Visit) → Takes a v.token rest → Passes v.token a.peers (after_visit rest v).peers
passes_peers a rest v (of_clients t reason) = let more = (extends t v).peers in leaves more.0 more.1
passes_peers a rest v (of_fresh t reason) = let more = (extends t v).peers in leaves more.0 more.1
passes_peers a rest v (of_peers t reason) = let more = (extends t v).peers in takes_first (record { others = t.others; more = more.0; first = t.first; rest = more.1 })

-- one of the two lists of an agenda
module _ (queue : Agenda → List ℕ) (passes : (a rest : Agenda) (v : Visit) → Takes a v.token rest → Passes v.token (queue a) (queue (after_visit rest v))) (most token : ℕ) where
  -- the first was visited
  move_by : (old new last : List ℕ) (v : Visit) (vs : List Visit) (place : ℕ) → IsFirst v.token old new → slice_get old place ≡ Some token
      → ((at : ℕ) → slice_get new at ≡ Some token → Moves token vs last (suc at)) → Moves token (v ∷ vs) last place
  move_by old new last v vs zero is there later =
      let same : Some v.token ≡ Some token = sym (ap (λ (l : List ℕ). slice_get l 0) is.first) ∙ there in visited (visited_first token v vs (cc))
  move_by old new last v vs (suc place) is there later =
      longer v (later place (ap (λ (l : List ℕ). slice_get l place) is.rest ∙ get_append is.others is.more place token (sym (ap (λ (l : List ℕ). slice_get l (suc place)) is.first) ∙ there)))

  -- and where it wasn't, a socket stays at its place
  first_or_there : (old new : List ℕ) (v : Visit) (place : ℕ) → Passes v.token old new → slice_get old place ≡ Some token → IsFirst v.token old new ⊎ (slice_get new place ≡ Some token)
  first_or_there old new v place (takes_first first) there = inl first
  first_or_there old new v place (leaves more is) there = inr (ap (λ (l : List ℕ). slice_get l place) is ∙ get_append old more place token there)

  -- a socket of the list isn't set back
  stays : (visits : List Visit) (a end : Agenda) (place : ℕ) → AreVisits most a visits end → slice_get (queue a) place ≡ Some token → Moves token visits (queue end) (suc place)
  stays [] a end place same there = at_place place (omega arith) (ap (λ (b : Agenda). slice_get (queue b) place) (sym same) ∙ there)
  stays (v ∷ vs) a end place are there =
      ⊎_elim
      (λ (first : IsFirst v.token (queue a) (queue (after_visit are.0 v))).
      further (omega arith) (move_by (queue a) (queue (after_visit are.0 v)) (queue end) v vs place first there (λ at found. stays vs (after_visit are.0 v) end at are.3 found)))
      (λ (found : slice_get (queue (after_visit are.0 v)) place ≡ Some token). longer v (stays vs (after_visit are.0 v) end place are.3 found))
      (first_or_there (queue a) (queue (after_visit are.0 v)) v place (passes a are.0 v (takes are.1)) there)

  -- While a fact holds of an agenda, a round isn't over before the first of a list is visited.
  module _ (Is : Agenda → Type 0)
      (goes_on : (a rest : Agenda) (v : Visit) → Is a → queue a ≢ [] → Takes a v.token rest → IsFirst v.token (queue a) (queue (after_visit rest v)) ⊎ Is (after_visit rest v))
      (ends : (a : Agenda) → Is a → next_of a ≡ None → queue a ≡ []) where
    moves : (visits : List Visit) (a end : Agenda) (place : ℕ) → AreVisits most a visits end → next_of end ≡ None → Is a → slice_get (queue a) place ≡ Some token
        → Moves token visits (queue end) place
    moves [] a end place same over is there = absurd (not_empty (queue a) place token there (ends a is (ap next_of same ∙ over)))
    moves (v ∷ vs) a end place are over is there =
        let passed = λ (first : IsFirst v.token (queue a) (queue (after_visit are.0 v))).
        move_by (queue a) (queue (after_visit are.0 v)) (queue end) v vs place first there (λ at found. stays vs (after_visit are.0 v) end at are.3 found) in
        ⊎_elim passed
        (λ still. ⊎_elim passed
        (λ (found : slice_get (queue (after_visit are.0 v)) place ≡ Some token). longer v (moves vs (after_visit are.0 v) end place are.3 over still found))
        (first_or_there (queue a) (queue (after_visit are.0 v)) v place (passes a are.0 v (takes are.1)) there))
        (goes_on a are.0 v is (not_empty (queue a) place token there) (takes are.1))

    -- so it is visited in one of as many rounds as there are places up to it
    in_rounds : ((a : Agenda) (ready : List ℕ) → Is (begun (with_all_ready a ready))) → ((a : Agenda) (ready : List ℕ) → queue (begun (with_all_ready a ready)) ≡ queue a)
        → (rounds : List Round) (a end : Agenda) (place : ℕ) → AreRounds most a rounds end → place < length rounds → slice_get (queue a) place ≡ Some token
        → (r : Round) × Contains rounds r × IsVisited token r.visits
    in_rounds begins same [] a end place are within there = absurd (omega arith)
    in_rounds begins same (r ∷ rs) a end place are within there =
        round_by (moves r.visits (begun (with_all_ready a r.ready)) are.0 place are.1 are.2 (begins a r.ready) (ap (λ (l : List ℕ). slice_get l place) (same a r.ready) ∙ there))
        (λ now less found. in_rounds begins same rs are.0 end now are.3 less found)
      where
        round_by : Moves token r.visits (queue are.0) place → ((now : ℕ) → now < length rs → slice_get (queue are.0) now ≡ Some token → (s : Round) × Contains rs s × IsVisited token s.visits)
            → (s : Round) × Contains (r ∷ rs) s × IsVisited token s.visits
        round_by (visited found) later = (r, (0, omega arith, refl), found)
        round_by (at_place now less found) later =
            let one = later now (omega arith) found in (one.0, (suc one.1.0, let inside = one.1.1 in omega arith, one.1.2), one.2)

-- ---- The listening sockets, and the relay sockets

-- enough visits are left for one of the listening sockets
data LeavesClients (a : Agenda) : Type 0 where
  many : 5 ≤ a.left → LeavesClients a
  few : a.fresh ≡ [] → 5 ≤ a.left + a.since → a.since ≤ 4 → LeavesClients a

-- enough visits are left for one of the relay sockets
data LeavesPeers (a : Agenda) : Type 0 where
  two : 2 ≤ a.left → LeavesPeers a
  one : a.fresh ≡ [] → 1 ≤ a.left → a.since < 4 → LeavesPeers a

module _ (a rest : Agenda) (v : Visit) where
  clients_go_on : LeavesClients a → a.clients ≢ [] → Takes a v.token rest → IsFirst v.token a.clients (after_visit rest v).clients ⊎ LeavesClients (after_visit rest v)
  clients_go_on enough_left some (of_clients t reason) = let more = (extends t v).clients in inl (record { others = t.others; more = more.0; first = t.first; rest = more.1 })
  clients_go_on (many enough) some (of_fresh t reason) = inr (many (omega (arith, (extends t v).left)))
  clients_go_on (few none enough small) some (of_fresh t reason) = absurd (reason.0 none)
  clients_go_on (many enough) some (of_peers t reason) =
      let after = extends t v in
      let less = reason.3 some in
      inr (few (after.fresh ∙ reason.2) (omega (arith, after.left, after.since)) (omega (arith, after.since)))
  clients_go_on (few none enough small) some (of_peers t reason) =
      let after = extends t v in
      let less = reason.3 some in
      let positive = reason.1 in
      inr (few (after.fresh ∙ none) (omega (arith, after.left, after.since)) (omega (arith, after.since)))

  peers_go_on : LeavesPeers a → a.peers ≢ [] → Takes a v.token rest → IsFirst v.token a.peers (after_visit rest v).peers ⊎ LeavesPeers (after_visit rest v)
  peers_go_on enough_left some (of_peers t reason) = let more = (extends t v).peers in inl (record { others = t.others; more = more.0; first = t.first; rest = more.1 })
  peers_go_on (two enough) some (of_fresh t reason) = inr (two (omega (arith, (extends t v).left)))
  peers_go_on (one none enough less) some (of_fresh t reason) = absurd (reason.0 none)
  peers_go_on enough_left some (of_clients t reason) = inr (leaves_after a.fresh refl enough_left (extends t v) reason.1)
    where
      leaves_after : (xs : List ℕ) → a.fresh ≡ xs → LeavesPeers a → Extends (record a { clients = t.others; since = 0; left = a.left - 1 }) (after_visit rest v) → kept_back a.fresh < a.left
          → LeavesPeers (after_visit rest v)
      leaves_after (x ∷ xs) is enough_left after in_turn = let kept = ap kept_back is in two (omega (arith, after.left))
      leaves_after [] is (two enough) after in_turn = one (after.fresh ∙ is) (omega (arith, after.left)) (omega (arith, after.since))
      leaves_after [] is (one none enough less) after in_turn = ⊎_elim (λ turn. absurd (omega arith)) (λ empty. absurd (some empty)) reason.2

clients_end : (a : Agenda) → LeavesClients a → next_of a ≡ None → a.clients ≡ []
clients_end a enough_left over = ⊎_elim (λ none. absurd (none_left enough_left none)) (λ both. both.0) (is_over a over).1
  where
    none_left : LeavesClients a → a.left ≡ 0 → ⊥
    none_left (many enough) none = omega arith
    none_left (few fresh enough small) none = omega arith

peers_end : (a : Agenda) → LeavesPeers a → next_of a ≡ None → a.peers ≡ []
peers_end a enough_left over = ⊎_elim (λ none. absurd (none_left enough_left none)) (λ both. both.1) (is_over a over).1
  where
    none_left : LeavesPeers a → a.left ≡ 0 → ⊥
    none_left (two enough) none = omega arith
    none_left (one fresh enough less) none = omega arith

pub none_starves : NoneStarves
none_starves most a end rounds place token are within (inl there) =
    in_rounds (λ b. b.clients) passes_clients most token LeavesClients clients_go_on clients_end (λ b ready. many (omega arith)) (λ b ready. (adds_all b ready).clients)
    rounds a end place are within there
none_starves most a end rounds place token are within (inr there) =
    in_rounds (λ b. b.peers) passes_peers most token LeavesPeers peers_go_on peers_end (λ b ready. two (omega arith)) (λ b ready. (adds_all b ready).peers)
    rounds a end place are within there

-- ---- A round for each

-- where there are no visits for those that have more, a round visits the fresh sockets, in order
fresh_in_order : (most : ℕ) (visits : List Visit) (a end : Agenda) → a.left ≡ 0 → AreVisits most a visits end → next_of end ≡ None → map (λ v. v.token) visits ≡ a.fresh
fresh_in_order most [] a end none are over = sym ((ap (λ (b : Agenda). b.fresh) are) ∙ (is_over end over).0)
fresh_in_order most (v ∷ vs) a end none are over =
    by (takes are.1) (λ left. fresh_in_order most vs (after_visit are.0 v) end left are.3 over)
  where
    by : Takes a v.token are.0 → ((after_visit are.0 v).left ≡ 0 → map (λ w. w.token) vs ≡ (after_visit are.0 v).fresh) → map (λ w. w.token) (v ∷ vs) ≡ a.fresh
    by (of_clients t reason) later = let in_turn = reason.1 in absurd (omega arith)
    by (of_peers t reason) later = let some = reason.1 in absurd (omega arith)
    by (of_fresh t reason) later = let after = extends t v in ap (λ (l : List ℕ). v.token ∷ l) (later (after.left ∙ none) ∙ after.fresh) ∙ sym t.first

pub each_visited : EachIsVisited
each_visited most a end visits are over = fresh_in_order most visits (begun_for_each a) end refl are over

-- What single reads of sockets come to, and visits and rounds of them.
use Rattle.std.proofs.Common.{arith, ◌≡◌, ◌≢◌, ◌⊎◌, ◌+◌, ◌≤◌, ◌∷◌, ◌++◌, [], inl, inr, ℕ, Bool, true, false, List, None, Option, Some, Result, Ok, Err, IsErrAnd, is_ok, if◌then◌else◌, append-nil, append_assoc, flat_map, is_none, length, length-append, map, refl, sym, ap, ◌∙◌, subst, ⊎_elim}
use Rattle.std.proofs.lemmas.Grind.{flat_map-append}
use Rattle.std.proofs.lemmas.List.{map-append}
use Rattle.turn_cred.specs.declared.handler.AuthHandler as handlers
use Rattle.turn_disk.specs.Meanwhile as meanwhile
use Rattle.turn_engine.specs.Prelude.{BesideState, HasToWait}
use Rattle.turn_ports.specs.declared.generator.RelayAddressGenerator as generators
use Rattle.turn_sockets.specs.Backlog.{BacklogState, if_same, waiting_of}
use Rattle.turn_sockets.specs.Fairness as fairness
use Rattle.turn_sockets.specs.Fairness.{AreVisits, Visit, after_visit}
use Rattle.turn_sockets.specs.Own.{IsRelay, come_from}
use Rattle.turn_sockets.specs.Schedule.{Agenda, next_of, with_all_ready, with_more}
use Rattle.turn_sockets.specs.Wire.{Passed}
use Rattle.turn_sockets.specs.Wire.{Received as received}
use Rattle.turn_step.specs.Prelude.{Arrives, FromClient, FromPeer}
use Rattle.turn_types.specs.declared.address.Endpoint.{Endpoint}
use Rattle.turn_types.specs.declared.address.FiveTuple.{FiveTuple}
use Rattle.turn_serving.specs.Manner.{reads_of}
use Rattle.turn_serving.specs.Reading.{AreRounds, IsFound, MakesVisits, MeanwhileState, ReadsBeside, ReadsRound, Replies, Takes, meanwhile_flow}
use Rattle.turn_serving.specs.Sending.{Addresses, PortSockets}
use Rattle.turn_serving.specs.Visits.{Answered, AreTaken, AreVisited, Empty, Ending, EndsSo, Failed, Fate, Flow, Full, Gone, HadToWait, Held, IsTaken, IsVisited, Kept, Lost, OfItself, Round, Rounds, Shed, Taken, Visited, begun_by, ended_of, flow, has_more, listening_at, noted_at, passed_at, passed_by, visit_of}
use Rattle.turn_serving.specs.declared.manner.Manner.{Manner}
use Rattle.turn_engine.specs.declared.unanswered.Unanswered.{Unanswered}
use Rattle.turn_serving.specs.declared.reader.Found.{Found}
use Rattle.turn_serving.specs.declared.reader.Found.TheVariants as found
use Rattle.turn_serving.specs.declared.reader.Reply.TheVariants as reply

module _ {H G : Type 0} {handler : handlers.Ghosts H} {ports : generators.Ghosts G} {relays : PortSockets G} {here : Addresses} {b : BesideState H G} {token : ℕ} where
  -- a datagram from a relay port of the server itself
  pub takes_own : {is_data : Bool} {at : Endpoint} (from : Endpoint) (bytes : List ℕ) (waits : BacklogState) {before after : List Passed} → listening_at here.sockets token ≡ Some at → IsRelay here.own from → after ≡ before ++ received at from bytes ∷ []
      → IsFound handler ports relays here b token (found.Answered is_data) (flow waits before) (flow waits after)
  takes_own {at = at} from bytes waits there own came = record {
    taken = record { at = at; from = from; bytes = bytes; arrival = FromClient (record { client = from; server = at }) bytes; fate = OfItself };
    is = record { arrives = (there, refl, refl); befalls = (own, refl) };
    passed = came;
    tells = tt;
  }

  -- a client's datagram that waits, or is dropped
  pub takes_kept : {f : FiveTuple} {at from : Endpoint} {bytes : List ℕ} {waited waits : BacklogState} {before after : List Passed} → f ≡ record { client = from; server = at } → listening_at here.sockets token ≡ Some at
      → after ≡ before ++ received at from bytes ∷ [] → HadToWait handler ports b waited (FromClient f bytes)
      → ((g : FiveTuple) → waiting_of waits g ≡ waiting_of waited g ++ if_same f g bytes) ⊎ (waits ≡ waited)
      → IsFound handler ports relays here b token found.Kept (flow waited before) (flow waits after)
  takes_kept {f = f} {at = at} {from = from} {bytes = bytes} is there came had (inl adds) = record {
    taken = record { at = at; from = from; bytes = bytes; arrival = FromClient f bytes; fate = Kept };
    is = record { arrives = (there, is, refl); befalls = (had, adds) };
    passed = came;
    tells = tt;
  }
  takes_kept {f = f} {at = at} {from = from} {bytes = bytes} is there came had (inr same) = record {
    taken = record { at = at; from = from; bytes = bytes; arrival = FromClient f bytes; fate = Shed };
    is = record { arrives = (there, is, refl); befalls = (had, same) };
    passed = came;
    tells = tt;
  }

  -- a client's datagram that is answered
  pub takes_answered : {said : Bool} {f : FiveTuple} {at from : Endpoint} {bytes : List ℕ} {waits : BacklogState} {before between after : List Passed} → f ≡ record { client = from; server = at } → listening_at here.sockets token ≡ Some at
      → between ≡ before ++ received at from bytes ∷ [] → waiting_of waits f ≡ [] → Replies handler ports relays here b (FromClient f bytes) (reply.Sent true) between after
      → IsFound handler ports relays here b token (found.Answered said) (flow waits before) (flow waits after)
  takes_answered {f = f} {at = at} {from = from} {bytes = bytes} {before = before} is there came none r = record {
    taken = record { at = at; from = from; bytes = bytes; arrival = FromClient f bytes; fate = Answered r.0 r.1 };
    is = record { arrives = (there, is, refl); befalls = (none, r.2, r.3, refl) };
    passed = r.4 ∙ ap (λ l. l ++ r.1) came ∙ append_assoc before (received at from bytes ∷ []) r.1;
    tells = tt;
  }

  -- a client's datagram for whose answer there was no memory
  pub takes_lost : {evidence : Arrives} {f : FiveTuple} {at from : Endpoint} {bytes : List ℕ} {waits : BacklogState} {before between after : List Passed} → f ≡ record { client = from; server = at } → listening_at here.sockets token ≡ Some at
      → between ≡ before ++ received at from bytes ∷ [] → waiting_of waits f ≡ [] → Replies handler ports relays here b (FromClient f bytes) (reply.Lost evidence) between after
      → IsFound handler ports relays here b token (found.Lost evidence) (flow waits before) (flow waits after)
  takes_lost {f = f} {at = at} {from = from} {bytes = bytes} is there came none r = record {
    taken = record { at = at; from = from; bytes = bytes; arrival = FromClient f bytes; fate = Lost };
    is = record { arrives = (there, is, refl); befalls = (none, refl) };
    passed = r.1 ∙ came;
    tells = (refl, r.0);
  }

  -- a peer's datagram that is answered
  pub takes_peers : {said : Bool} {at peer : Endpoint} {bytes id : List ℕ} {waits : BacklogState} {before between after : List Passed} (from : Endpoint) → relays.has_socket b.machine.ports token ≡ true
      → at ≡ record { ip = relays.bound b.machine.ports; port = token } → peer ≡ come_from here.own from → between ≡ before ++ received at from bytes ∷ []
      → Replies handler ports relays here b (FromPeer token peer bytes id) (reply.Sent true) between after
      → IsFound handler ports relays here b token (found.Answered said) (flow waits before) (flow waits after)
  takes_peers {at = at} {peer = peer} {bytes = bytes} {id = id} {before = before} from has is seen came r = record {
    taken = record { at = at; from = from; bytes = bytes; arrival = FromPeer token peer bytes id; fate = Answered r.0 r.1 };
    is = record { arrives = (has, is, refl, seen, refl); befalls = (tt, r.2, r.3, refl) };
    passed = r.4 ∙ ap (λ l. l ++ r.1) came ∙ append_assoc before (received at from bytes ∷ []) r.1;
    tells = tt;
  }

  pub takes_no_peers : {evidence : Arrives} {at peer : Endpoint} {bytes id : List ℕ} {waits : BacklogState} {before between after : List Passed} (from : Endpoint) → relays.has_socket b.machine.ports token ≡ true
      → at ≡ record { ip = relays.bound b.machine.ports; port = token } → peer ≡ come_from here.own from → between ≡ before ++ received at from bytes ∷ []
      → Replies handler ports relays here b (FromPeer token peer bytes id) (reply.Lost evidence) between after
      → IsFound handler ports relays here b token (found.Lost evidence) (flow waits before) (flow waits after)
  takes_no_peers {at = at} {peer = peer} {bytes = bytes} {id = id} from has is seen came r = record {
    taken = record { at = at; from = from; bytes = bytes; arrival = FromPeer token peer bytes id; fate = Lost };
    is = record { arrives = (has, is, refl, seen, refl); befalls = (tt, refl) };
    passed = r.1 ∙ came;
    tells = (refl, r.0);
  }

-- ---- Visits

module _ {H G : Type 0} (handler : handlers.Ghosts H) (ports : generators.Ghosts G) (relays : PortSockets G) (here : Addresses) (b : BesideState H G) where
  taken-append : (token : ℕ) (old : BacklogState) (ts : List Taken) (middle : BacklogState) (t : Taken) (new : BacklogState) → AreTaken handler ports relays here b token old ts middle → IsTaken handler ports relays here b token t middle new
      → AreTaken handler ports relays here b token old (ts ++ t ∷ []) new
  taken-append token old [] middle t new are is = (new, subst (λ (x : BacklogState). IsTaken handler ports relays here b token t x new) are is, refl)
  taken-append token old (u ∷ us) middle t new are is = (are.0, are.1, taken-append token are.0 us middle t new are.2 is)

  -- so many datagrams were taken of a socket
  pub record HaveTaken (token count : ℕ) (old new : Flow) : Type 0 where
    pub taken : List Taken
    pub are : AreTaken handler ports relays here b token old.waits taken new.waits
    pub counted : length taken ≡ count
    pub passed : new.passed ≡ old.passed ++ flat_map passed_by taken

module _ {H G : Type 0} {handler : handlers.Ghosts H} {ports : generators.Ghosts G} {relays : PortSockets G} {here : Addresses} {b : BesideState H G} where
  pub none_taken : (token : ℕ) (old : Flow) → HaveTaken handler ports relays here b token 0 old old
  none_taken token old = record { taken = []; are = refl; counted = refl; passed = sym (append-nil old.passed) }

  pub one_more : {token count : ℕ} {result : _} {old middle new : Flow} → HaveTaken handler ports relays here b token count old middle → Takes handler ports relays here b token result middle new → HaveTaken handler ports relays here b token (count + 1) old new
  one_more {token = token} {count = count} {old = old} {middle = middle} {new = new} before t = record {
    taken = before.taken ++ t.taken ∷ [];
    are = taken-append handler ports relays here b token old.waits before.taken middle.waits t.taken new.waits before.are t.is;
    counted = let both = length-append before.taken (t.taken ∷ []) in let some = before.counted in omega (arith, both, some);
    passed =
        t.passed ∙ ap (λ l. l ++ passed_by t.taken) before.passed ∙ append_assoc old.passed (flat_map passed_by before.taken) (passed_by t.taken)
        ∙ ap (λ l. old.passed ++ l) (ap (λ l. flat_map passed_by before.taken ++ l) (sym (append-nil (passed_by t.taken))) ∙ sym (flat_map-append passed_by before.taken (t.taken ∷ [])));
  }

  -- the end of a visit
  pub ends : {token count most : ℕ} {old middle : Flow} {new : Flow} (ending : Ending) → HaveTaken handler ports relays here b token count old middle → count ≤ most → EndsSo handler ports relays here b most token count ending
      → new.waits ≡ middle.waits → new.passed ≡ middle.passed ++ noted_at ending
      → (v : Visited) × (v.token ≡ token) × (has_more v ≡ has_more (record { token = token; taken = []; ending = ending })) × IsVisited handler ports relays here b most v old new
  ends {token = token} {count = count} {most = most} {old = old} ending t few so waits noted = (
    record { token = token; taken = t.taken; ending = ending },
    refl,
    refl,
    record {
      taken = subst (λ (w : BacklogState). AreTaken handler ports relays here b token old.waits t.taken w) (sym waits) t.are;
      few = let same = t.counted in omega (arith, same, few);
      ends = subst (λ (n : ℕ). EndsSo handler ports relays here b most token n ending) (sym t.counted) so;
      passed = noted ∙ ap (λ l. l ++ noted_at ending) t.passed ∙ append_assoc old.passed (flat_map passed_by t.taken) (noted_at ending);
    },
  )
      -- what a read says of the end of a visit

  pub ends_failed : {token count most : ℕ} {result : Found} {old middle new : Flow} → HaveTaken handler ports relays here b token count old middle → count ≤ most → result ≡ found.Failed → IsFound handler ports relays here b token result middle new
      → (v : Visited) × (v.token ≡ token) × (has_more v ≡ true) × IsVisited handler ports relays here b most v old new
  ends_failed {token = token} {middle = middle} {new = new} t few is f =
      let x = subst (λ (r : Found). IsFound handler ports relays here b token r middle new) is f in
      ends (Failed x.0) t few x.1 (ap (λ (l : Flow). l.waits) x.2) (ap (λ (l : Flow). l.passed) x.2)

  pub ends_held : {token count most : ℕ} {result : Found} {old middle new : Flow} → HaveTaken handler ports relays here b token count old middle → count ≤ most → result ≡ found.Held → IsFound handler ports relays here b token result middle new
      → (v : Visited) × (v.token ≡ token) × (has_more v ≡ true) × IsVisited handler ports relays here b most v old new
  ends_held {token = token} {middle = middle} {new = new} t few is f =
      let x = subst (λ (r : Found). IsFound handler ports relays here b token r middle new) is f in
      ends Held t few (x.0, x.1) (ap (λ (l : Flow). l.waits) x.2) (ap (λ (l : Flow). l.passed) x.2 ∙ sym (append-nil middle.passed))

  pub ends_nothing : {token count most : ℕ} {result : Found} {old middle new : Flow} → HaveTaken handler ports relays here b token count old middle → count ≤ most → result ≡ found.Nothing → IsFound handler ports relays here b token result middle new
      → (v : Visited) × (v.token ≡ token) × (has_more v ≡ false) × IsVisited handler ports relays here b most v old new
  ends_nothing {token = token} {middle = middle} {new = new} t few is f =
      ⊎_elim
      (λ x. ends (Empty x.0) t few x.1 (ap (λ (l : Flow). l.waits) x.2) (ap (λ (l : Flow). l.passed) x.2))
      (λ x. ends Gone t few x.0 (ap (λ (l : Flow). l.waits) x.1) (ap (λ (l : Flow). l.passed) x.1 ∙ sym (append-nil middle.passed)))
      (subst (λ (r : Found). IsFound handler ports relays here b token r middle new) is f)

  -- as many datagrams were taken as a visit may read
  pub ends_full : {token count most : ℕ} {old new : Flow} → HaveTaken handler ports relays here b token count old new → count ≡ most
      → (v : Visited) × (v.token ≡ token) × (has_more v ≡ true) × IsVisited handler ports relays here b most v old new
  ends_full {new = new} t is = ends Full t (omega (arith, is)) is refl (sym (append-nil new.passed))

  -- a read that found a datagram
  pub one_more_found : {token count : ℕ} {result : Found} {old middle new : Flow} → HaveTaken handler ports relays here b token count old middle
      → ((x : Bool) × (result ≡ found.Answered x)) ⊎ ((result ≡ found.Kept) ⊎ ((x : Unanswered) × (result ≡ found.Lost x))) → IsFound handler ports relays here b token result middle new
      → HaveTaken handler ports relays here b token (count + 1) old new
  one_more_found {token = token} {middle = middle} {new = new} t (inl answered) f = one_more t (subst (λ (r : Found). IsFound handler ports relays here b token r middle new) answered.1 f)
  one_more_found {token = token} {middle = middle} {new = new} t (inr (inl kept)) f = one_more t (subst (λ (r : Found). IsFound handler ports relays here b token r middle new) kept f)
  one_more_found {token = token} {middle = middle} {new = new} t (inr (inr lost)) f = one_more t (subst (λ (r : Found). IsFound handler ports relays here b token r middle new) lost.1 f)

-- ---- Rounds

-- what is an error isn't done
pub not_ok : {T E : Type 0} (Q : E → Type 0) (r : Result T E) → IsErrAnd r Q → is_ok r ≡ true → false ≡ true
not_ok Q (Ok x) is ok = absurd is
not_ok Q (Err y) is ok = ok

-- a socket that has more is listed again, and one that hasn't isn't
pub put_back : {lists : Agenda} {token : ℕ} (rest : Agenda) (v : Visited) → has_more v ≡ true → v.token ≡ token → lists ≡ with_more rest token → lists ≡ after_visit rest (visit_of v)
put_back rest v more same is = is ∙ ap (with_more rest) (sym same) ∙ sym (ap (λ (b : Bool). if b then with_more rest v.token else rest) more)

pub not_put_back : {rest lists : Agenda} (v : Visited) → has_more v ≡ false → lists ≡ rest → lists ≡ after_visit rest (visit_of v)
not_put_back {rest = rest} v none is = is ∙ sym (ap (λ (b : Bool). if b then with_more rest v.token else rest) none)

order-append : (most : ℕ) (listed : Agenda) (vs : List Visit) (middle rest : Agenda) (v : Visit) → AreVisits most listed vs middle → next_of middle ≡ Some (v.token, rest) → fairness.IsVisit most v
    → AreVisits most listed (vs ++ v ∷ []) (after_visit rest v)
order-append most listed [] middle rest v are is few = (rest, subst (λ (x : Agenda). next_of x ≡ Some (v.token, rest)) (sym are) is, few, refl)
order-append most listed (w ∷ ws) middle rest v are is few = (are.0, are.1, are.2, order-append most (after_visit are.0 w) ws middle rest v are.3 is few)

module _ {H G : Type 0} (handler : handlers.Ghosts H) (ports : generators.Ghosts G) (relays : PortSockets G) (here : Addresses) (b : BesideState H G) where
  visited-append : (most : ℕ) (old : Flow) (vs : List Visited) (middle : Flow) (v : Visited) (new : Flow) → AreVisited handler ports relays here b most old vs middle → IsVisited handler ports relays here b most v middle new
      → AreVisited handler ports relays here b most old (vs ++ v ∷ []) new
  visited-append most old [] middle v new are is = (new, subst (λ (x : Flow). IsVisited handler ports relays here b most v x new) are is, refl)
  visited-append most old (u ∷ us) middle v new are is = (are.0, are.1, visited-append most are.0 us middle v new are.2 is)

  -- sockets were visited, each time the one that was next
  pub record HaveVisited (most : ℕ) (listed : Agenda) (old : Flow) (lists : Agenda) (new : Flow) : Type 0 where
    pub visits : List Visited
    pub are : AreVisited handler ports relays here b most old visits new
    pub in_order : AreVisits most listed (map visit_of visits) lists

module _ {H G : Type 0} {handler : handlers.Ghosts H} {ports : generators.Ghosts G} {relays : PortSockets G} {here : Addresses} {b : BesideState H G} where
  pub none_visited : (most : ℕ) (listed : Agenda) (old : Flow) → HaveVisited handler ports relays here b most listed old listed old
  none_visited most listed old = record { visits = []; are = refl; in_order = refl }

  -- a visit that was made is one of at most so many datagrams
  is_visit : (most : ℕ) (v : Visited) (old new : Flow) → IsVisited handler ports relays here b most v old new → fairness.IsVisit most (visit_of v)
  is_visit most v old new is = record { reads = is.few; full = full v.ending is.ends }
    where
      full : (ending : Ending) → EndsSo handler ports relays here b most v.token (length v.taken) ending → ended_of ending ≡ fairness.Full → length v.taken ≡ most
      full (Empty at) so never = absurd (cc)
      full Gone so never = absurd (cc)
      full (Failed at) so never = absurd (cc)
      full Held so never = absurd (cc)
      full Full so same = so

  -- one more visit, of the socket that was next
  pub one_visit : {most : ℕ} {listed middle rest lists : Agenda} {old between new : Flow} (v : Visited) → HaveVisited handler ports relays here b most listed old middle between → next_of middle ≡ Some (v.token, rest)
      → IsVisited handler ports relays here b most v between new → lists ≡ after_visit rest (visit_of v) → HaveVisited handler ports relays here b most listed old lists new
  one_visit {most = most} {listed = listed} {middle = middle} {rest = rest} {old = old} {between = between} {new = new} v before next is last = record {
    visits = before.visits ++ v ∷ [];
    are = visited-append handler ports relays here b most old before.visits between v new before.are is;
    in_order =
        subst (λ (a : Agenda). AreVisits most listed (map visit_of (before.visits ++ v ∷ [])) a) (sym last)
        (subst (λ l. AreVisits most listed l (after_visit rest (visit_of v))) (sym (map-append visit_of before.visits (v ∷ [])))
        (order-append most listed (map visit_of before.visits) middle rest (visit_of v) before.in_order next (is_visit most v between new is)));
  }

  -- visits to the end of a round
  pub visits_done : {done : Bool} {most : ℕ} {listed lists : Agenda} {old new : Flow} → HaveVisited handler ports relays here b most listed old lists new → next_of lists ≡ None → MakesVisits handler ports relays here most b done listed old lists new
  visits_done v over = record { visits = v.visits; visited = v.are; in_order = λ d. v.in_order; is_over = λ d. over }

  -- visits of which the last couldn't be noted
  pub visits_failed : {done : Bool} {most : ℕ} {listed middle lists : Agenda} {old between new : Flow} (v : Visited) → (done ≡ true → false ≡ true) → HaveVisited handler ports relays here b most listed old middle between → IsVisited handler ports relays here b most v between new
      → MakesVisits handler ports relays here most b done listed old lists new
  visits_failed {most = most} {old = old} {between = between} {new = new} v failed before is = record {
    visits = before.visits ++ v ∷ [];
    visited = visited-append handler ports relays here b most old before.visits between v new before.are is;
    in_order = λ d. absurd (let no = failed d in cc);
    is_over = λ d. absurd (let no = failed d in cc);
  }

-- ---- Rounds in a row

module _ {H G : Type 0} (handler : handlers.Ghosts H) (ports : generators.Ghosts G) (relays : PortSockets G) (here : Addresses) (manner : Manner) (b : BesideState H G) where
  pub rounds-append : {first_done done : Bool} (first second : List Round) (listed middle lists : Agenda) (old between new : Flow) → (done ≡ true → first_done ≡ true) → AreRounds handler ports relays here manner b first_done first listed old middle between
      → AreRounds handler ports relays here manner b done second middle between lists new → AreRounds handler ports relays here manner b done (first ++ second) listed old lists new
  rounds-append {done = done} [] second listed middle lists old between new earlier before after =
      subst (λ (a : Agenda). AreRounds handler ports relays here manner b done second a old lists new) before.0
      (subst (λ (x : Flow). AreRounds handler ports relays here manner b done second middle x lists new) before.1 after)
  rounds-append (r ∷ rs) second listed middle lists old between new earlier before after =
      (before.0, before.1, before.2, λ d. before.3 (earlier d), rounds-append rs second before.0 middle lists before.1 between new earlier before.4 after)

module _ {H G : Type 0} {handler : handlers.Ghosts H} {ports : generators.Ghosts G} {relays : PortSockets G} {here : Addresses} {manner : Manner} {b : BesideState H G} where
  -- visits after a look are a round
  pub round_of : {done : Bool} {listed first lists : Agenda} {old new : Flow} (ready : List ℕ) → first ≡ begun_by manner.commits (with_all_ready listed ready) → (v : MakesVisits handler ports relays here (reads_of manner) b done first old lists new)
      → Rounds handler ports relays here manner b (record { ready = ready; visits = v.visits; is_whole = done }) listed old lists new
  round_of {lists = lists} ready begins v = record {
    visited = v.visited;
    in_order = λ d. subst (λ (a : Agenda). AreVisits (reads_of manner) a (map visit_of v.visits) lists) begins (v.in_order d);
    is_over = v.is_over;
  }

-- ---- Beside a commit

module _ {H G : Type 0} {handler : handlers.Ghosts H} {ports : generators.Ghosts G} {relays : PortSockets G} {b : BesideState H G} where
  -- a round that wasn't begun
  pub no_round : {done : Bool} {old opened new : MeanwhileState} → opened ≡ old → (done ≡ true → false ≡ true) → new ≡ record opened { agenda = new.agenda } → ReadsRound handler ports relays b done old new
  no_round {done = done} {opened = opened} {new = new} is failed same = subst (λ (s : MeanwhileState). ReadsRound handler ports relays b done s new) is record {
    addresses = ap (λ (s : MeanwhileState). s.addresses) same;
    manner = ap (λ (s : MeanwhileState). s.manner) same;
    fault = ap (λ (s : MeanwhileState). s.fault) same;
    round = record { ready = []; visits = []; is_whole = false };
    is = record { visited = ap meanwhile_flow same; in_order = λ whole. absurd (cc); is_over = λ whole. absurd (cc) };
    whole = failed;
  }

  -- one that was
  pub one_round : {seen done : Bool} {old opened new : MeanwhileState} {first : Agenda} → opened ≡ old → (done ≡ true → seen ≡ true) → (ready : List ℕ) → first ≡ begun_by opened.manner.commits (with_all_ready opened.agenda ready)
      → MakesVisits handler ports relays opened.addresses (reads_of opened.manner) b seen first (meanwhile_flow opened) new.agenda (meanwhile_flow new)
      → new ≡ record opened { backlog = new.backlog; agenda = new.agenda; passed = new.passed } → ReadsRound handler ports relays b done old new
  one_round {seen = seen} {done = done} {opened = opened} {new = new} is well ready begins v same = subst (λ (s : MeanwhileState). ReadsRound handler ports relays b done s new) is record {
    addresses = ap (λ (s : MeanwhileState). s.addresses) same;
    manner = ap (λ (s : MeanwhileState). s.manner) same;
    fault = ap (λ (s : MeanwhileState). s.fault) same;
    round = record { ready = ready; visits = v.visits; is_whole = seen };
    is = round_of {manner = opened.manner} ready begins v;
    whole = well;
  }

  -- a round is what was read beside a commit, also where it failed
  pub beside_round : {done : Bool} {old opened new last : MeanwhileState} → opened ≡ old → ReadsRound handler ports relays b done opened new → last ≡ record new { fault = last.fault } → (last.fault ≡ None → (done ≡ true) × (opened.fault ≡ None))
      → ReadsBeside handler ports relays b old last
  beside_round {new = new} {last = last} is r same fine = subst (λ (s : MeanwhileState). ReadsBeside handler ports relays b s last) is record {
    addresses = ap (λ (s : MeanwhileState). s.addresses) same ∙ r.addresses;
    manner = ap (λ (s : MeanwhileState). s.manner) same ∙ r.manner;
    no_fault = λ none. (fine none).1;
    rounds = r.round ∷ [];
    are = (new.agenda, meanwhile_flow new, r.is, λ none. r.whole (fine (none_is none)).0, (ap (λ (s : MeanwhileState). s.agenda) same, ap meanwhile_flow same));
  }
    where
      none_is : {X : Type 0} {x : Option X} → is_none x ≡ true → x ≡ None
      none_is {x = None} is = refl
      none_is {x = Some y} is = absurd (cc)

  nothing_beside : (s : MeanwhileState) → ReadsBeside handler ports relays b s s
  nothing_beside s = record { addresses = refl; manner = refl; no_fault = λ none. none; rounds = []; are = (refl, refl) }

  beside_in_row : {old middle new : MeanwhileState} → ReadsBeside handler ports relays b old middle → ReadsBeside handler ports relays b middle new → ReadsBeside handler ports relays b old new
  beside_in_row {old = old} {middle = middle} {new = new} first second = record {
    addresses = second.addresses ∙ first.addresses;
    manner = second.manner ∙ first.manner;
    no_fault = λ none. first.no_fault (second.no_fault none);
    rounds = first.rounds ++ second.rounds;
    are =
        rounds-append handler ports relays old.addresses old.manner b {first_done = is_none middle.fault} {done = is_none new.fault} first.rounds second.rounds old.agenda middle.agenda new.agenda (meanwhile_flow old) (meanwhile_flow middle) (meanwhile_flow new)
        (λ none. is_none_of (second.no_fault (none_is none))) first.are
        (subst (λ (m : Manner). AreRounds handler ports relays old.addresses m b (is_none new.fault) second.rounds middle.agenda (meanwhile_flow middle) new.agenda (meanwhile_flow new)) first.manner
        (subst (λ (a : Addresses). AreRounds handler ports relays a middle.manner b (is_none new.fault) second.rounds middle.agenda (meanwhile_flow middle) new.agenda (meanwhile_flow new)) first.addresses second.are));
  }
    where
      none_is : {X : Type 0} {x : Option X} → is_none x ≡ true → x ≡ None
      none_is {x = None} is = refl
      none_is {x = Some y} is = absurd (cc)

      is_none_of : {X : Type 0} {x : Option X} → x ≡ None → is_none x ≡ true
      is_none_of is = ap is_none is

  -- whatever was done, piece by piece
  pub all_beside : {old new : MeanwhileState} → meanwhile.Passes (ReadsBeside handler ports relays b) old new → ReadsBeside handler ports relays b old new
  all_beside {old = old} meanwhile.none = nothing_beside old
  all_beside (meanwhile.more first rest) = beside_in_row first (all_beside rest)

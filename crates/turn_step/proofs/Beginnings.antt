-- What an answer needs of a history: the events of one five-tuple, for an Allocate what others have, and for data a beginning, after
-- which there are no events of its five-tuple.
use Rattle.std.proofs.Common.{◌≡◌, ◌≤◌, ℕ, Bool, List, [], ◌∷◌, ◌++◌, Some, take, drop, map, refl, sym, ap, subst, ◌∙◌, arith, ◌↔◌, ◌≢◌, append-nil, take-append-drop}
use Rattle.std.specs.FinMap as fin
use Rattle.std.specs.List.{AllByRecursion}
use Rattle.std.proofs.lemmas.Bool.{cond_both}
use Rattle.std.proofs.lemmas.List.Elements.{filter-append}
use Rattle.turn_types.specs.Prelude.{same_tuple, tuple_cmp}
use Rattle.turn_history.specs.Prelude.{Endpoint, FiveTuple, Bounds, IsFitting, Event, History, clock, events_of, Entry, table}
use Rattle.turn_codec.specs.Prelude.{Content, Encodes}
use Rattle.turn_history.proofs.Histories.{clock-append, fitting-split, ports-apart}
use Rattle.turn_history.proofs.Maps.{from_eq, tuple_exact}
use Rattle.turn_relay.proofs.Datagrams.{same_entry}
use Rattle.turn_relay.proofs.Holders.{same_holder}
use Rattle.turn_rules.proofs.Alone.{allocates_same, answers_same, entry_same, others_too}
use Rattle.turn_rules.specs.Prelude.{Answers, credential_outcome}
use Rattle.turn_step.specs.Prelude.{AnswersArrival, AnswersClient, AnswersPeer, Setting, IsOwner, IsRequestOf, SameForAllocates, EncodesNoAllocate, Arrives, StepOutcome, FromClient, FromPeer}
use Rattle.turn_step.proofs.Exclusion.{no_request}

module _ (s : Setting) (h g : History) (t : ℕ) (failed : Bool) (f : FiveTuple) (bytes : List ℕ) (o : StepOutcome) (events : events_of f h ≡ events_of f g) where
  -- the answers go on where those to a message do
  client_goes_on :
      ((m : Content) (d : _) → Encodes bytes m → Answers s.pairs s.config s.keys s.range h t failed f (record { bytes = bytes; content = m }) d → Answers s.pairs s.config s.keys s.range g t failed f (record { bytes = bytes; content = m }) d)
      → AnswersClient s h t failed f bytes o → AnswersClient s g t failed f bytes o
  client_goes_on goes_on answer = record {
    decided = answer.decided;
    relayed = answer.relayed;
    decides = record {
      message = λ m encoded. goes_on m answer.decided encoded (answer.decides.message m encoded);
      no_message = answer.decides.no_message;
    };
    sends = same_entry (table h t) (table g t) f bytes answer.relayed (entry_same h g t f events) answer.sends;
    one = answer.one;
    sent = answer.sent;
    change = answer.change;
  }

  pub client_same : EncodesNoAllocate bytes → AnswersClient s h t failed f bytes o → AnswersClient s g t failed f bytes o
  client_same other = client_goes_on (λ m d encoded. answers_same s.pairs s.config s.range h g t failed f (record { bytes = bytes; content = m }) (credential_outcome s.config s.keys f.client t (record { bytes = bytes; content = m })) d events (other m encoded))

  pub allocate_same : SameForAllocates s f t bytes (table h t) (table g t) → AnswersClient s h t failed f bytes o → AnswersClient s g t failed f bytes o
  allocate_same others = client_goes_on (λ m d encoded. allocates_same s.pairs s.config s.range h g t failed f (record { bytes = bytes; content = m }) (credential_outcome s.config s.keys f.client t (record { bytes = bytes; content = m })) d events (others m encoded))

pub allocates_too : (s : Setting) (h g : History) (t : ℕ) (f : FiveTuple) (bytes : List ℕ) → SameForAllocates s f t bytes (table h t) (table g t) → SameForAllocates s f t bytes (table g t) (table h t)
allocates_too s h g t f bytes others = λ m encoded. others_too s.range _ (table h t) (table g t) (others m encoded)

pub peer_same :
    (b : Bounds) (h g : History) (t : ℕ) (f : FiveTuple) (e : Entry) (peer : Endpoint) (bytes id : List ℕ) (o : StepOutcome)
    → IsFitting b h → IsFitting b g → clock h ≤ t → clock g ≤ t → fin.get (table h t).entries f ≡ Some e → fin.get (table g t).entries f ≡ Some e
    → AnswersPeer h t e.port peer bytes id o → AnswersPeer g t e.port peer bytes id o
peer_same b h g t f e peer bytes id o fits-h fits-g now-h now-g here there answer = record {
  relayed = answer.relayed;
  sends = same_holder (table h t) (table g t) f e peer bytes answer.relayed (ports-apart b h t fits-h now-h) here there answer.sends;
  written = answer.written;
  change = answer.change;
}

-- ---- Data

-- what is no request encodes no Allocate
no_allocate : (f : FiveTuple) (bytes : List ℕ) → ¬ IsRequestOf (FromClient f bytes) → EncodesNoAllocate bytes
no_allocate f bytes other = λ m encodes. (let asks = no_request f bytes other m encodes in rw asks refl)

-- events of others are none of f
none_of : (f : FiveTuple) (es : History) → AllByRecursion (λ g. g ≢ f) (map (λ (e : Event). e.tuple) es) → events_of f es ≡ []
none_of f [] others = refl
none_of f (e ∷ es) others = cond_both (same_tuple f e.tuple) (e ∷ events_of f es) (events_of f es) (λ xs. xs ≡ [])
    (λ is. absurd (others.0 (sym (from_eq tuple_cmp tuple_exact f e.tuple is)))) (λ _. none_of f es others.1)

module _ (h : History) (k : ℕ) where
  events_before : (f : FiveTuple) → AllByRecursion (λ g. g ≢ f) (map (λ (e : Event). e.tuple) (drop k h)) → events_of f h ≡ events_of f (take k h)
  events_before f others =
      ap (events_of f) (sym (take-append-drop k h))
      ∙ filter-append (λ e. same_tuple f e.tuple) (take k h) (drop k h)
      ∙ ap (λ es. events_of f (take k h) ++ es) (none_of f (drop k h) others)
      ∙ append-nil (events_of f (take k h))

  fits_before : (b : Bounds) → IsFitting b h → IsFitting b (take k h)
  fits_before b fits = (fitting-split b (take k h) (drop k h) (subst (IsFitting b) (sym (take-append-drop k h)) fits)).0

  clock_before : (t : ℕ) → clock h ≤ t → clock (take k h) ≤ t
  clock_before t late =
      let whole : clock (take k h ++ drop k h) ≡ clock h = ap clock (take-append-drop k h) in
      let parts = clock-append (take k h) (drop k h) in
      omega arith

  pub data_same : (s : Setting) (b : Bounds) (t : ℕ) (failed : Bool) (a : Arrives) (f : FiveTuple) (o : StepOutcome)
      → IsFitting b h → clock h ≤ t → ¬ IsRequestOf a → IsOwner (table h t) a f → AllByRecursion (λ g. g ≢ f) (map (λ (e : Event). e.tuple) (drop k h))
      → (AnswersArrival s h t failed a o ↔ AnswersArrival s (take k h) t failed a o)
  data_same s b t failed (FromClient g bytes) f o fits late other of others =
      let events : events_of g h ≡ events_of g (take k h) = subst (λ x. events_of x h ≡ events_of x (take k h)) (sym of) (events_before f others) in
      let none = no_allocate g bytes other in (
        client_same s h (take k h) t failed g bytes o events none,
        client_same s (take k h) h t failed g bytes o (sym events) none,
      )
  data_same s b t failed (FromPeer port from bytes id) f o fits late other of others =
      let e = of.0 in
      let there = sym (entry_same h (take k h) t f (events_before f others)) ∙ of.1 in
      let part = fits_before b fits in
      let now = clock_before t late in
      subst (λ p. AnswersArrival s h t failed (FromPeer p from bytes id) o ↔ AnswersArrival s (take k h) t failed (FromPeer p from bytes id) o) of.2 (
        peer_same b h (take k h) t f e from bytes id o fits part late now of.1 there,
        peer_same b (take k h) h t f e from bytes id o part fits now late there of.1,
      )

-- What a client's bytes are answered: a reply or relayed data, and not both.
use Rattle.std.proofs.Common.{◌≡◌, ◌<◌, ℕ, Bool, true, false, All, List, [], Option, Some, None, option_map, refl, sym, ap, subst, inl, inr, ◌∙◌}
use Rattle.std.specs.FinMap as fin
use Rattle.std.specs.Option.{option_or}
use Rattle.std.proofs.lemmas.Bool.{false_from_ne_true}
use Rattle.std.proofs.lemmas.Option.{cond_some}
use Rattle.turn_types.specs.Prelude.{Config}
use Rattle.turn_history.specs.Prelude.{Endpoint, FiveTuple, Class, Request, Indication, Success, Error, History, Contents, Entry, table}
use Rattle.turn_codec.specs.Prelude.{EncodesChannelData, Content, Datagram, Encodes}
use Rattle.turn_codec.proofs.Header.{one_message}
use Rattle.turn_codec.proofs.Values.{values_are_bytes}
use Rattle.turn_cred.specs.Prelude.{Keys, Verdict, policy_of, verdict, Passed}
use Rattle.turn_cred.proofs.Passes.{passed_in_range}
use Rattle.turn_rules.specs.Prelude.{Answers, Decided, MayAnswer, decision, is_protected, is_request, credential_outcome, outcome_of, port_needed, IsMadeOfBytes, NamesInRange}
use Rattle.turn_relay.specs.FromClient.{PeerData, SendsToPeer, sent_by_message}
use Rattle.turn_relay.proofs.Datagrams.{of_message}
use Rattle.turn_step.specs.Prelude.{AnswersClient, IsDecided, Setting, to_client, to_peer, undecided, IsRequestOf, HasNoReply, StepOutcome, change_of, decided_for, nothing, FromClient, ToClient, ToPeer}

-- ---- Messages

-- messages in datagrams are made of bytes
pub made_of_bytes : (bytes : List ℕ) (m : Content) → All (λ x. x < 256) bytes → Encodes bytes m → IsMadeOfBytes m
made_of_bytes bytes m all encodes =
    let made = values_are_bytes bytes m all encodes in
    record { tx_size = made.0; tx = made.1; values = made.2 }

-- the user of credentials that were checked has a name of 1 to `name_bytes` bytes
pub checked_in_range : (s : Config) (keys : Keys) (client : Endpoint) (t : ℕ) (d : Datagram) → IsMadeOfBytes d.content → NamesInRange s.limits (credential_outcome s keys client t d)
unfolding credential_outcome
checked_in_range s keys client t d made user key is =
    passed_in_range (policy_of s) keys d client t user key made.values (cond_some (is_protected d.content.method) (verdict (policy_of s) keys d client t) (Passed user key) is).1

-- nothing is decided about a message that is no request
undecided_is : (pairs : Bool) (s : Config) (c : Contents) (f : FiveTuple) (t : ℕ) (d : Datagram) (v : Option Verdict) (port : Option ℕ) → is_request d.content.class ≡ false → decision pairs s c f t d v port ≡ undecided
unfolding outcome_of decision
undecided_is pairs s c f t d v port other = rw other refl

pub nothing_decided : (s : Setting) (h : History) (t : ℕ) (failed : Bool) (f : FiveTuple) (d : Datagram) → is_request d.content.class ≡ false
    → Answers s.pairs s.config s.keys s.range h t failed f d undecided
unfolding port_needed
nothing_decided s h t failed f d other = record {
  port = None;
  picked = λ need needed. (let none = rw other at needed in cc);
  decided = sym (undecided_is _ _ _ _ _ _ _ _ other);
}

-- a request sends nothing to a peer
pub request_sends_nothing : (e : Option Entry) (d : Datagram) → is_request d.content.class ≡ true → sent_by_message e d ≡ None
unfolding sent_by_message
request_sends_nothing e d request = by_class d.content.class refl
  where
    by_class : (k : Class) → d.content.class ≡ k → sent_by_message e d ≡ None
    by_class Request same = rw same refl
    by_class Indication same = let no = rw same at request in cc
    by_class Success same = let no = rw same at request in cc
    by_class Error same = let no = rw same at request in cc

-- ---- A client's bytes

-- what is no request encodes no message of its class
pub no_request : (f : FiveTuple) (bytes : List ℕ) → ¬ IsRequestOf (FromClient f bytes) → (m : Content) → Encodes bytes m → is_request m.class ≡ false
no_request f bytes other m encodes = false_from_ne_true (is_request m.class) (λ asks. other (m, encodes, asks))

-- the bytes encode no other message
pub one_datagram : (bytes : List ℕ) (d : Datagram) → d.bytes ≡ bytes → Encodes bytes d.content → (m : Content) → Encodes bytes m → d ≡ record { bytes = bytes; content = m }
one_datagram bytes d same found m encodes = λ j. record { bytes = same j; content = (one_message bytes bytes [] [] d.content m found encodes refl).1 j }

module _ (s : Setting) (h : History) (t : ℕ) (failed : Bool) (f : FiveTuple) where
  -- the credentials as they were checked
  pub decided_as_checked : (d : Datagram) (v : Option Verdict) (o : StepOutcome) → v ≡ credential_outcome s.config s.keys f.client t d
      → ((x : Decided) × MayAnswer s.pairs s.config s.range h t failed f d v x × (o ≡ decided_for f x)) → IsDecided s h t failed f d o
  decided_as_checked d v o checked found = record {
    decided = found.0;
    answers = subst (λ w. MayAnswer s.pairs s.config s.range h t failed f d w found.0) checked found.1;
    is = found.2;
  }

  module _ (bytes : List ℕ) where
    -- the bytes are no request, and send data or nothing
    pub of_sent : (p : Option PeerData) (o : StepOutcome) → ((m : Content) → Encodes bytes m → is_request m.class ≡ false) → SendsToPeer (table h t) f bytes p
        → o ≡ record { change = None; sent = to_peer p } → AnswersClient s h t failed f bytes o
    of_sent p o other sends is = record {
      decided = undecided;
      relayed = p;
      decides = record {
        message = λ m encodes. nothing_decided s h t failed f (record { bytes = bytes; content = m }) (other m encodes);
        no_message = λ none. refl;
      };
      sends = sends;
      one = inl refl;
      sent = ap (λ (x : StepOutcome). x.sent) is ∙ elim p as (λ q. to_peer q ≡ option_or (to_peer q) (to_client f None)) [ Some q ↦ refl | None ↦ refl ];
      change = ap (λ (x : StepOutcome). x.change) is;
    }

    -- the bytes are a request
    pub of_request : (d : Datagram) → d.bytes ≡ bytes → Encodes bytes d.content → is_request d.content.class ≡ true → (o : StepOutcome) → IsDecided s h t failed f d o → AnswersClient s h t failed f bytes o
    of_request d same found asks o x = record {
      decided = x.decided;
      relayed = None;
      decides = record {
        message = λ m encodes. subst (λ e. Answers s.pairs s.config s.keys s.range h t failed f e x.decided) (one_datagram bytes d same found m encodes) x.answers;
        no_message = λ none. absurd (none d.content found);
      };
      sends = of_message (table h t) f bytes d.content None found (sym (request_sends_nothing (fin.get (table h t).entries f) (record { bytes = bytes; content = d.content }) asks));
      one = inr refl;
      sent = ap (λ (y : StepOutcome). y.sent) x.is;
      change = ap (λ (y : StepOutcome). y.change) x.is;
    }

-- ---- Replies and relayed data exclude each other

no_data : (f : FiveTuple) (reply : Option (List ℕ)) (port : ℕ) (peer : Endpoint) (payload : List ℕ) → to_client f reply ≡ Some (ToPeer port peer payload) → ⊥
no_data f None port peer payload is = cc
no_data f (Some bytes) port peer payload is = cc

no_reply : (relayed : Option PeerData) (f : FiveTuple) (bytes : List ℕ) → option_or (to_peer relayed) None ≡ Some (ToClient f bytes) → ⊥
no_reply None f bytes is = cc
no_reply (Some p) f bytes is = cc

module _ (s : Setting) (h : History) (t : ℕ) (failed : Bool) (f : FiveTuple) (bytes : List ℕ) (o : StepOutcome) where
  pub request_relays_nothing : (m : Content) → Encodes bytes m → is_request m.class ≡ true → AnswersClient s h t failed f bytes o
      → (port : ℕ) (peer : Endpoint) (payload : List ℕ) → o.sent ≡ Some (ToPeer port peer payload) → ⊥
  request_relays_nothing m encodes request a port peer payload is =
      let none : a.relayed ≡ None = a.sends.message m encodes ∙ request_sends_nothing _ (record { bytes = bytes; content = m }) request in
      no_data f a.decided.reply port peer payload (sym (ap (λ r. option_or (to_peer r) (to_client f a.decided.reply)) none) ∙ sym a.sent ∙ is)

  undecided_no_reply : (a : AnswersClient s h t failed f bytes o) → a.decided ≡ undecided → HasNoReply o
  undecided_no_reply a none = record {
    change = a.change ∙ ap (λ (d : Decided). option_map (change_of f) d.act) none;
    sent = λ g reply is. no_reply a.relayed g reply (sym (ap (λ (d : Decided). option_or (to_peer a.relayed) (to_client f d.reply)) none) ∙ sym a.sent ∙ is);
  }

  pub other_no_reply : (m : Content) → Encodes bytes m → is_request m.class ≡ false → AnswersClient s h t failed f bytes o → HasNoReply o
  other_no_reply m encodes other a =
      let answers = a.decides.message m encodes in
      undecided_no_reply a (answers.decided ∙ undecided_is _ _ _ _ _ _ _ answers.port other)

  pub no_message_no_reply : ((m : Content) → ¬ Encodes bytes m) → AnswersClient s h t failed f bytes o → HasNoReply o
  no_message_no_reply none a = undecided_no_reply a (a.decides.no_message none)

  pub unreadable_nothing : ((m : Content) → ¬ Encodes bytes m) → ((number : ℕ) (payload : List ℕ) → ¬ EncodesChannelData bytes number payload)
      → AnswersClient s h t failed f bytes o → o ≡ nothing
  unreadable_nothing none no_channel a =
      let undone = (no_message_no_reply none a).change in
      let unsent : o.sent ≡ None =
      a.sent ∙ ap (λ (d : Decided). option_or (to_peer a.relayed) (to_client f d.reply)) (a.decides.no_message none)
      ∙ ap (λ r. option_or (to_peer r) None) (a.sends.neither none no_channel) in
      λ j. record { change = undone j; sent = unsent j }

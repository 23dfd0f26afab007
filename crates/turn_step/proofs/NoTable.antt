-- Requests whose answer is the same for every table.
use Rattle.std.proofs.Common.{◌≡◌, ℕ, Bool, true, List, None, sym, ap, subst, refl, ◌∙◌, option_map}
use Rattle.std.specs.FinMap as fin
use Rattle.std.specs.Option.{option_or}
use Rattle.std.proofs.lemmas.Bool.{false_from_ne_true}
use Rattle.turn_history.specs.Prelude.{FiveTuple, History, table}
use Rattle.turn_codec.specs.Prelude.{Content, Datagram, Encodes}
use Rattle.turn_rules.specs.Prelude.{credential_outcome, depends_on_table, is_request}
use Rattle.turn_rules.proofs.AllTables.{answered_alike, no_act_decided}
use Rattle.turn_step.specs.Prelude.{AnswersArrival, AnswersClient, IsDecided, Setting, to_client, to_peer, Arrives, IsRequestOf, NeedsTable, StepOutcome, change_of, FromClient, FromPeer}
use Rattle.turn_step.proofs.Exclusion.{of_request, one_datagram, request_sends_nothing}

-- ---- Which requests need the table

module _ (s : Setting) (t : ℕ) (f : FiveTuple) where
  abbrev pub Depends : Datagram → Type 0
  Depends d = depends_on_table d (credential_outcome s.config s.keys f.client t d) ≡ true

  module _ (bytes : List ℕ) (d : Datagram) (same : d.bytes ≡ bytes) (found : Encodes bytes d.content) where
    pub needs_where_depends : Depends d → NeedsTable s t (FromClient f bytes)
    needs_where_depends is = (d.content, found, subst Depends (one_datagram bytes d same found d.content found) is)

    pub depends_where_needs : NeedsTable s t (FromClient f bytes) → Depends d
    depends_where_needs needs = subst Depends (sym (one_datagram bytes d same found needs.0 needs.1)) needs.2

-- ---- Their answers

-- what is sent and done about a client's request is what is decided about it
decided_alone : (s : Setting) (h : History) (t : ℕ) (failed : Bool) (f : FiveTuple) (bytes : List ℕ) (o : StepOutcome) (m : Content) → Encodes bytes m → is_request m.class ≡ true
    → AnswersClient s h t failed f bytes o → IsDecided s h t failed f (record { bytes = bytes; content = m }) o
decided_alone s h t failed f bytes o m encodes asks a =
    let none : a.relayed ≡ None = a.sends.message m encodes ∙ request_sends_nothing (fin.get (table h t).entries f) (record { bytes = bytes; content = m }) asks in
    let sent = a.sent ∙ ap (λ r. option_or (to_peer r) (to_client f a.decided.reply)) none in
    record {
      decided = a.decided;
      answers = a.decides.message m encodes;
      is = λ j. record { change = a.change j; sent = sent j };
    }

pub alike_arrival : (s : Setting) (h g : History) (t : ℕ) (failed failed_then : Bool) (a : Arrives) (o : StepOutcome) → IsRequestOf a → ¬ NeedsTable s t a
    → AnswersArrival s h t failed a o → AnswersArrival s g t failed_then a o
alike_arrival s h g t failed failed_then (FromPeer port from bytes id) o asks none answer = absurd asks
alike_arrival s h g t failed failed_then (FromClient f bytes) o asks none answer =
    let m = asks.0 in
    let d : Datagram = record { bytes = bytes; content = m } in
    let v = credential_outcome s.config s.keys f.client t d in
    let no_table = false_from_ne_true (depends_on_table d v) (λ is. none (m, asks.1, is)) in
    let x = decided_alone s h t failed f bytes o m asks.1 asks.2 answer in
    of_request s g t failed_then f bytes d refl asks.1 asks.2 o (record {
      decided = x.decided;
      answers = answered_alike d v no_table s.pairs s.pairs s.config s.range s.range h g t failed failed_then f x.decided x.answers;
      is = x.is;
    })

pub no_change_of_arrival : (s : Setting) (h : History) (t : ℕ) (failed : Bool) (a : Arrives) (o : StepOutcome) → IsRequestOf a → ¬ NeedsTable s t a
    → AnswersArrival s h t failed a o → o.change ≡ None
no_change_of_arrival s h t failed (FromPeer port from bytes id) o asks none answer = absurd asks
no_change_of_arrival s h t failed (FromClient f bytes) o asks none answer =
    let m = asks.0 in
    let d : Datagram = record { bytes = bytes; content = m } in
    let v = credential_outcome s.config s.keys f.client t d in
    let no_table = false_from_ne_true (depends_on_table d v) (λ is. none (m, asks.1, is)) in
    let x = answer.decides.message m asks.1 in
    answer.change ∙ ap (λ y. option_map (change_of f) y.act) x.decided ∙ ap (option_map (change_of f)) (no_act_decided d v no_table s.pairs s.config (table h t) f t x.port)

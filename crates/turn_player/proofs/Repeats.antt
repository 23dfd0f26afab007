-- An Allocate that comes again gets the same bytes.
use Rattle.std.proofs.Common.{◌≡◌, inl, inr, ℕ, Bool, true, false, List, [], ◌∷◌, ◌++◌, map, sym, ap, ◌∙◌, subst, append_assoc, Option, Some, None, ◌==◌, ◌||◌, if◌then◌else◌, option_map}
use Rattle.std.proofs.lemmas.List.{map-append}
use Rattle.std.specs.FinMap as fin
use Rattle.std.specs.Option.{option_or}
use Rattle.std.proofs.lemmas.Bool.{and_parts, not-false, or_parts}
use Rattle.std.proofs.lemmas.Option.{same_Some}
use Rattle.turn_history.specs.Prelude.{FiveTuple, Allocates, Allocation, History, PlainAct, allocation_of, Entry, table}
use Rattle.turn_types.specs.Prelude.{allocate, channel_bind, create_permission, refresh}
use Rattle.turn_history.proofs.Live.{entry_of_live}
use Rattle.turn_codec.specs.Prelude.{Datagram, Encodes}
use Rattle.turn_cred.specs.Prelude.{Verdict, policy_of, verdict, Passed, IsSentBy, NonceHolds}
use Rattle.turn_cred.specs.declared.key.Key.{Key}
use Rattle.turn_cred.proofs.Passes.{passed_again, sent_by}
use Rattle.turn_rules.specs.Prelude.{Decided, decision, is_allocate, is_dropped, is_protected, is_request, credential_outcome, outcome_of, user_of, act_by}
use Rattle.turn_rules.proofs.Acts.{quiet_act}
use Rattle.turn_rules.proofs.Reached.{IsOfUser, Known, known}
use Rattle.turn_rules.proofs.Repeats.{later_same, repeat_same}
use Rattle.turn_step.specs.Prelude.{AnswersArrival, AnswersClient, Setting, to_client, to_peer, Arrives, Change, StepOutcome, Sent, change_of, FromClient}
use Rattle.turn_step.proofs.Exclusion.{request_relays_nothing}
use Rattle.turn_engine.specs.Prelude.{IsRun, Taken, accepted}
use Rattle.turn_engine.proofs.Answered.{answered_at}
use Rattle.turn_player.specs.Lives.{Lasting, Point, arrivals_of, formatted, history_of, recent_of, taken_of}
use Rattle.turn_player.specs.Repeats.{ComesAgain, LastsAfter, MadeBefore, Makes}
use Rattle.turn_player.proofs.Growing.{by_option}
use Rattle.turn_player.proofs.Lives.{begins_life, one_run}

-- ---- Requests

taken_request : (d : Datagram) → is_dropped d ≡ false → is_request d.content.class ≡ true
taken_request d taken = not-false (is_request d.content.class) (or_parts _ _ taken).0

act_is : (f : FiveTuple) (o : Option PlainAct) (act : PlainAct) → option_map (change_of f) o ≡ Some (change_of f act) → o ≡ Some act
act_is f None act is = cc
act_is f (Some x) act is = ap (option_map (λ (c : Change). c.act)) is

same_outcome : (o k : StepOutcome) → o.change ≡ k.change → o.sent ≡ k.sent → o ≡ k
same_outcome o k change sent = ap (λ (c : Option Change). record { change = c; sent = o.sent }) change ∙ ap (λ (x : Option Sent). record { change = k.change; sent = x }) sent

-- what is decided about a request is its outcome
outcome_by : FiveTuple → Decided → StepOutcome
outcome_by f x = record { change = option_map (change_of f) x.act; sent = to_client f x.reply }

module _ (s : Setting) (f : FiveTuple) (d : Datagram) (encodes : Encodes d.bytes d.content) where
  checked : ℕ → Option Verdict
  checked t = credential_outcome s.config s.keys f.client t d

  checked_is : (t : ℕ) → is_protected d.content.method ≡ true → checked t ≡ Some (verdict (policy_of s.config) s.keys d f.client t)
  unfolding checked credential_outcome
  checked_is t protected = ap (λ b. if b then Some (verdict (policy_of s.config) s.keys d f.client t) else None) protected

  -- credentials that held hold as long as the nonce does
  checked_again : (t u : ℕ) (user : List ℕ) (key : Key) → is_protected d.content.method ≡ true → checked t ≡ Some (Passed user key) → NonceHolds (policy_of s.config) d f.client u → checked u ≡ Some (Passed user key)
  checked_again t u user key protected held nonce =
      let passed = same_Some _ _ (sym (checked_is t protected) ∙ held) in
      checked_is u protected ∙ ap (λ v. Some v) (passed_again (policy_of s.config) s.keys d f.client t u user key passed nonce)

  outcome_is : (z : Setting) (h : History) (t : ℕ) (failed : Bool) (o : StepOutcome) → is_request d.content.class ≡ true → (a : AnswersClient z h t failed f d.bytes o) → o ≡ outcome_by f a.decided
  unfolding outcome_by
  outcome_is z h t failed o request a =
      let none : a.relayed ≡ None = by_option a.relayed (λ none. none)
      (λ p is. absurd (request_relays_nothing z h t failed f d.bytes o d.content encodes request a p.port p.peer p.payload
      (a.sent ∙ ap (λ r. option_or (to_peer r) (to_client f a.decided.reply)) is))) in
      same_outcome o (outcome_by f a.decided) a.change (a.sent ∙ ap (λ r. option_or (to_peer r) (to_client f a.decided.reply)) none)

  -- ---- The allocation was made

  module _ (h : History) (t : ℕ) (failed : Bool) (o : StepOutcome) (a : AnswersClient s h t failed f d.bytes o) (e : Entry) (change : o.change ≡ Some (change_of f (Allocates e.user e.port e.granted e.tx e.token))) where
    first_port : Option ℕ
    first_port = (a.decides.message d.content encodes).port

    first_is : a.decided ≡ decision s.pairs s.config (table h t) f t d (checked t) first_port
    unfolding checked first_port
    first_is = (a.decides.message d.content encodes).decided

    first_act : (decision s.pairs s.config (table h t) f t d (checked t) first_port).act ≡ Some (Allocates e.user e.port e.granted e.tx e.token)
    first_act = sym (ap (λ (x : Decided). x.act) first_is) ∙ act_is f a.decided.act _ (sym a.change ∙ change)

    of_user : IsOfUser s.pairs s.config (table h t) f t d (checked t) first_port (outcome_of s.pairs s.config (table h t) f t d (checked t) first_port)
    unfolding decision
    of_user = by_known (outcome_of s.pairs s.config (table h t) f t d (checked t) first_port) (known s.pairs s.config (table h t) f t d first_port (checked t)) acts
      where
        acts : act_by (user_of (checked t)) d.content (outcome_of s.pairs s.config (table h t) f t d (checked t) first_port) ≡ Some (Allocates e.user e.port e.granted e.tx e.token)
        acts = first_act

        by_known : (k : _) → Known s.pairs s.config (table h t) f t d (checked t) first_port k → act_by (user_of (checked t)) d.content k ≡ Some (Allocates e.user e.port e.granted e.tx e.token)
            → IsOfUser s.pairs s.config (table h t) f t d (checked t) first_port k
        by_known k (inl quiet) is = absurd (let wrong : ◌≡◌ {A = Option PlainAct} None (Some (Allocates e.user e.port e.granted e.tx e.token)) = sym (quiet_act (user_of (checked t)) d.content k quiet) ∙ is in let no : ⊥ = cc in no)
        by_known k (inr of_user) is = of_user

    again_is : (later : Bool) (g : History) (u : ℕ) (failed_again : Bool) (k : StepOutcome) → fin.get (table g u).entries f ≡ Some e → NonceHolds (policy_of s.config) d f.client u
        → AnswersClient (record s { pairs = later }) g u failed_again f d.bytes k → k ≡ record { change = None; sent = o.sent }
    unfolding outcome_by checked
    again_is later g u failed_again k at nonce b =
        let request = taken_request d of_user.taken in
        let alike : checked u ≡ checked t = checked_again t u of_user.user of_user.key of_user.protected of_user.verdict nonce ∙ sym of_user.verdict in
        let m = b.decides.message d.content encodes in
        let decided : b.decided ≡ record { reply = a.decided.reply; act = None } =
        m.decided ∙ ap (λ v. decision later s.config (table g u) f u d v m.port) alike
        ∙ repeat_same s.pairs later s.config (table h t) (table g u) f d (checked t) t u first_port m.port e first_act at
        ∙ ap (λ (x : Decided). record { reply = x.reply; act = None }) (sym first_is) in
        outcome_is (record s { pairs = later }) g u failed_again k request b ∙ ap (outcome_by f) decided
        ∙ ap (λ (x : StepOutcome). record { change = None; sent = x.sent }) (sym (outcome_is s h t failed o request a))

  -- ---- The five-tuple had the allocation already

  module _ (allocates : is_allocate d ≡ true) where
    protects : is_protected d.content.method ≡ true
    protects =
        let method = (and_parts (is_request d.content.class) (d.content.method == allocate) allocates).1 in
        ap (λ b. b || (d.content.method == refresh || (d.content.method == create_permission || d.content.method == channel_bind))) method

    later_is : (later : Bool) (h g : History) (t u : ℕ) (failed failed_again : Bool) (o k : StepOutcome) (user : List ℕ) (key : Key) (x e : Entry) → fin.get (table h t).entries f ≡ Some x → fin.get (table g u).entries f ≡ Some e
        → allocation_of x ≡ allocation_of e → IsSentBy (policy_of s.config) s.keys d f.client t user key → NonceHolds (policy_of s.config) d f.client u
        → AnswersClient s h t failed f d.bytes o → AnswersClient (record s { pairs = later }) g u failed_again f d.bytes k → k ≡ o
    unfolding checked
    later_is later h g t u failed failed_again o k user key x e had has same sent nonce a b =
        let request = (and_parts (is_request d.content.class) (d.content.method == allocate) allocates).0 in
        let held : checked t ≡ Some (Passed user key) = checked_is t protects ∙ ap (λ v. Some v) (sent_by (policy_of s.config) s.keys d f.client t user key sent) in
        let holds : checked u ≡ Some (Passed user key) = checked_again t u user key protects held nonce in
        let m = a.decides.message d.content encodes in
        let n = b.decides.message d.content encodes in
        let decided : b.decided ≡ a.decided =
        n.decided ∙ ap (λ v. decision later s.config (table g u) f u d v n.port) holds
        ∙ later_same s.pairs later s.config (table h t) (table g u) f d user key t u m.port n.port x e allocates had has same
        ∙ sym (m.decided ∙ ap (λ v. decision s.pairs s.config (table h t) f t d v m.port) held) in
        outcome_is (record s { pairs = later }) g u failed_again k request b ∙ ap (outcome_by f) decided ∙ sym (outcome_is s h t failed o request a)

-- ---- In a life

-- an arrival that lasts was answered from the events of those before it
answered : (s : Setting) (q : Point) (before : List Lasting) (x : Lasting) (f : FiveTuple) (bytes : List ℕ) → LastsAfter s q before x → (taken_of x).arrival ≡ FromClient f bytes
    → AnswersClient (record s { pairs = (taken_of x).pairs }) (accepted (map taken_of before)) (taken_of x).moment (taken_of x).failed f bytes (taken_of x).outcome
answered s q before x f bytes lasts arrival =
    let y = taken_of x in
    let others = map taken_of lasts.after ++ recent_of q in
    let one = one_run s lasts.may_fail formatted q lasts.inputs lasts.said [] lasts.life lasts.never_fall (begins_life s lasts.may_fail) in
    let whole : arrivals_of q ≡ map taken_of before ++ y ∷ others =
    ap (λ (l : List Lasting). map taken_of l ++ recent_of q) lasts.sure ∙ ap (λ (l : List Taken). l ++ recent_of q) (map-append taken_of before (x ∷ lasts.after))
    ∙ append_assoc (map taken_of before) (y ∷ map taken_of lasts.after) (recent_of q) in
    subst (λ (r : Arrives). AnswersArrival (record s { pairs = y.pairs }) (accepted (map taken_of before)) y.moment y.failed r y.outcome) arrival
    (answered_at s [] 0 (map taken_of before) y others (subst (IsRun s [] 0) whole one.is_run))

as_allocates : Allocation → PlainAct
as_allocates a = Allocates a.user a.port a.granted a.tx a.token

pub first_again : (s : Setting) (q : Point) (before : List Lasting) (x : Lasting) (f : FiveTuple) (d : Datagram) (a : Allocation) (t : ℕ) (again : StepOutcome)
    → LastsAfter s q before x → Makes (taken_of x) f d a → ComesAgain s (history_of q) t f d a again
    → again ≡ record { change = None; sent = (taken_of x).outcome.sent }
unfolding as_allocates
first_again s q before x f d a t again lasts makes comes =
    let y = taken_of x in
    let h = accepted (map taken_of before) in
    let entry = entry_of_live (history_of q) t f comes.has.live in
    let e = entry.0 in
    let same : a ≡ allocation_of e = same_Some _ _ (sym comes.has.made ∙ entry.2.made) in
    let change : y.outcome.change ≡ Some (change_of f (Allocates e.user e.port e.granted e.tx e.token)) = makes.change ∙ ap (λ (b : Allocation). Some (change_of f (as_allocates b))) same in
    again_is (record s { pairs = y.pairs }) f d makes.encodes h y.moment y.failed y.outcome (answered s q before x f d.bytes lasts makes.arrival) e change
    comes.pairs (history_of q) t comes.failed again entry.1 comes.nonce comes.answers

pub later_again : (s : Setting) (q : Point) (before : List Lasting) (x : Lasting) (f : FiveTuple) (d : Datagram) (a : Allocation) (t : ℕ) (again : StepOutcome)
    → LastsAfter s q before x → MadeBefore s (accepted (map taken_of before)) (taken_of x) f d a → ComesAgain s (history_of q) t f d a again
    → again ≡ (taken_of x).outcome
later_again s q before x f d a t again lasts old comes =
    let y = taken_of x in
    let h = accepted (map taken_of before) in
    let had = entry_of_live h y.moment f old.had.live in
    let has = entry_of_live (history_of q) t f comes.has.live in
    let same : allocation_of had.0 ≡ allocation_of has.0 = same_Some _ _ (sym had.2.made ∙ old.had.made) ∙ same_Some _ _ (sym comes.has.made ∙ has.2.made) in
    later_is (record s { pairs = y.pairs }) f d old.encodes old.is_allocate comes.pairs h (history_of q) y.moment t y.failed comes.failed y.outcome again old.user old.key had.0 has.0 had.1 has.1
    same old.sent_by comes.nonce (answered s q before x f d.bytes lasts old.arrival) comes.answers

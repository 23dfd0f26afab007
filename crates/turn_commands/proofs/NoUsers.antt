-- Without users nobody's credentials hold, so no reply depends on a port; over an empty table nothing is relayed.
use Rattle.std.proofs.Common.{◌≡◌, ℕ, Bool, true, false, List, [], ◌∷◌, refl, sym, ap, subst, ◌∙◌, arith}
use Rattle.std.specs.Prelude.{⊤, ◌&&◌, Option, Some, None, option_map, is_none, unwrap_or, not, if◌then◌else◌}
use Rattle.std.specs.FinMap as fin
use Rattle.std.proofs.lemmas.Option.{none-some}
use Rattle.turn_history.specs.Table as tables
use Rattle.turn_types.specs.Prelude.{Config, first_row}
use Rattle.turn_history.specs.Prelude.{Endpoint, FiveTuple, Contents, no_contents, table}
use Rattle.turn_codec.specs.Prelude.{EncodesChannelData, Content, Datagram, Encodes, username, realm, nonce, has_unknown, is_seen, seen_value}
use Rattle.turn_mac.specs.Fingerprint.{has_wrong_fingerprint}
use Rattle.turn_mac.specs.Integrity.{has_right_integrity}
use Rattle.turn_cred.specs.Prelude.{is_fresh, Policy, Verdict, has_integrity, no_key, policy_of, user_key, verdict, Bad400, Stale438, Passed}
use Rattle.turn_cred.specs.Credential.Verdict.{Challenge401}
use Rattle.turn_cred.specs.declared.key.Key.{Key}
use Rattle.turn_relay.specs.FromClient.{PeerData, SendsToPeer, is_send_indication, sent_by_channel_data, sent_by_message}
use Rattle.turn_rules.specs.Prelude.{decision, is_protected, credential_outcome, outcome_of}
use Rattle.std.specs.Option.{option_or, option_map_or}
use Rattle.turn_step.specs.Prelude.{AnswersClient, to_client, to_peer, Answered, IsAfter, MachineState, Arrives, StepOutcome, Sent, ToClient}
use Rattle.turn_commands.specs.Profile.{answer, no_keys, profile, reply_in}

-- ---- No user

abbrev pub IsNotPassed : Option Verdict → Type 0
IsNotPassed None = ⊤
IsNotPassed (Some Challenge401) = ⊤
IsNotPassed (Some Bad400) = ⊤
IsNotPassed (Some Stale438) = ⊤
IsNotPassed (Some (Passed user key)) = ⊥

first_three : (a b : Bool) (rows : List (Bool × Verdict)) (v : Verdict) →
    IsNotPassed (Some (first_row ((a, Challenge401) ∷ (b, Bad400) ∷ (true, Challenge401) ∷ rows) v))
first_three true b rows v = tt
first_three false true rows v = tt
first_three false false rows v = tt

same_twice : {X : Type 0} (b : Bool) (x : X) → (if b then x else x) ≡ x
same_twice true x = refl
same_twice false x = refl

no_user : (p : Policy) (user its_realm : List ℕ) → user_key p no_keys user its_realm ≡ None
unfolding user_key
no_user p user its_realm = same_twice _ None

-- the rows of the credential check, by the key
by_key : (p : Policy) (d : Datagram) (client : Endpoint) (t : ℕ) → IsNotPassed (Some (verdict p no_keys d client t))
unfolding verdict
by_key p d client t =
    let user = unwrap_or (seen_value d.content username) [] in
    let none = no_user p user (unwrap_or (seen_value d.content realm) []) in
    let is_signed = not (has_integrity d) in
    let is_complete = not (is_seen d.content username && is_seen d.content realm && is_seen d.content nonce) in
    let stale : Bool × Verdict = (not (is_fresh p.secret (unwrap_or (seen_value d.content nonce) []) client t), Stale438) in
    let Goal : Option Key → Type 0 = λ key. IsNotPassed (Some (first_row (
    (is_signed, Challenge401) ∷ (is_complete, Bad400) ∷ (is_none key, Challenge401) ∷
    (not (option_map_or (λ (k : Key). has_right_integrity k.bytes d) key false), Challenge401) ∷ stale ∷ []) (Passed user (unwrap_or key no_key)))) in
    subst Goal (sym none) (first_three is_signed is_complete
    ((not (option_map_or (λ (k : Key). has_right_integrity k.bytes d) None false), Challenge401) ∷ stale ∷ []) (Passed user (unwrap_or None no_key)))

either : (b : Bool) (v : Verdict) → IsNotPassed (Some v) → IsNotPassed (if b then Some v else None)
either true v h = h
either false v h = tt

nobody : (s : Config) (client : Endpoint) (t : ℕ) (d : Datagram) → IsNotPassed (credential_outcome s no_keys client t d)
unfolding credential_outcome
nobody s client t d = either (is_protected d.content.method) (verdict (policy_of s) no_keys d client t) (by_key (policy_of s) d client t)

any_port : (pairs : Bool) (s : Config) (c : Contents) (f : FiveTuple) (t : ℕ) (d : Datagram) (v : Option Verdict) (port : Option ℕ) →
    IsNotPassed v → decision pairs s c f t d v port ≡ decision false s c f t d v None
unfolding decision outcome_of
any_port pairs s c f t d None port h = refl
any_port pairs s c f t d (Some Challenge401) port h = refl
any_port pairs s c f t d (Some Bad400) port h = refl
any_port pairs s c f t d (Some Stale438) port h = refl
any_port pairs s c f t d (Some (Passed user key)) port h = absurd h

-- ---- An empty table

same_thrice : {X : Type 0} (a b c : Bool) (x : X) → first_row ((a, x) ∷ (b, x) ∷ (c, x) ∷ []) x ≡ x
same_thrice true b c x = refl
same_thrice false true c x = refl
same_thrice false false true x = refl
same_thrice false false false x = refl

no_message_sends : (d : Datagram) → sent_by_message None d ≡ None
unfolding sent_by_message
no_message_sends d = same_thrice (not (is_send_indication d.content)) (has_wrong_fingerprint d) (has_unknown d.content) None

no_channel_sends : (number : ℕ) (payload : List ℕ) → sent_by_channel_data None number payload ≡ None
unfolding sent_by_channel_data
no_channel_sends number payload = refl

nothing_is_there : (f : FiveTuple) → fin.get no_contents.entries f ≡ None
unfolding no_contents
nothing_is_there f = fin.get-empty _ f

pub empty_table : (t : ℕ) → table [] t ≡ no_contents
unfolding table no_contents tables.map_of tables.reservations
empty_table t = refl

-- what is relayed of a message, and of no message
relays_no_message : (f : FiveTuple) (bytes : List ℕ) (m : Content) (o : Option PeerData) → Encodes bytes m → SendsToPeer no_contents f bytes o → o ≡ None
relays_no_message f bytes m o encoded sends =
    let d : Datagram = record { bytes = bytes; content = m } in
    sends.message m encoded ∙ ap (λ e. sent_by_message e d) (nothing_is_there f) ∙ no_message_sends d

relays_nothing : (f : FiveTuple) (bytes : List ℕ) (o : Option PeerData) → ((m : Content) → ¬ (Encodes bytes m)) → SendsToPeer no_contents f bytes o → o ≡ None
relays_nothing f bytes None none sends = refl
relays_nothing f bytes (Some x) none sends =
    let no_channel : (number : ℕ) (payload : List ℕ) → ¬ (EncodesChannelData bytes number payload) = λ number payload encoded.
    none-some x (sym (sends.channel_data number payload encoded ∙ ap (λ e. sent_by_channel_data e number payload) (nothing_is_there f) ∙ no_channel_sends number payload)) in
    absurd (none-some x (sym (sends.neither none no_channel)))

-- ---- The reply

replied : (f : FiveTuple) (reply : Option (List ℕ)) → reply_in (option_map (ToClient f) reply) ≡ reply
replied f None = refl
replied f (Some bytes) = refl

replied_to : (pairs : Bool) (s : Config) (range : ℕ × ℕ) (t : ℕ) (failed : Bool) (f : FiveTuple) (bytes : List ℕ) (m : Content) (o : StepOutcome) →
    AnswersClient (record { config = s; keys = no_keys; range = range; pairs = pairs }) [] t failed f bytes o → Encodes bytes m → s ≡ profile →
    reply_in o.sent ≡ answer f t (record { bytes = bytes; content = m })
unfolding answer
replied_to pairs s range t failed f bytes m o a encoded same =
    let d : Datagram = record { bytes = bytes; content = m } in
    let v : Option Verdict = credential_outcome s no_keys f.client t d in
    let none = relays_no_message f bytes m a.relayed encoded (subst (λ c. SendsToPeer c f bytes a.relayed) (empty_table t) a.sends) in
    let may = a.decides.message m encoded in
    let decided = may.decided ∙ ap (λ c. decision pairs s c f t d v may.port) (empty_table t) ∙ any_port pairs s no_contents f t d v may.port (nobody s f.client t d) in
    let by_profile = decided ∙ ap (λ s. decision false s no_contents f t d (credential_outcome s no_keys f.client t d) None) same in
    ap reply_in (a.sent ∙ ap (λ r. option_or (to_peer r) (to_client f a.decided.reply)) none) ∙ replied f a.decided.reply ∙ ap (λ x. x.reply) by_profile

replied_nothing : (pairs : Bool) (s : Config) (range : ℕ × ℕ) (t : ℕ) (failed : Bool) (f : FiveTuple) (bytes : List ℕ) (o : StepOutcome) →
    AnswersClient (record { config = s; keys = no_keys; range = range; pairs = pairs }) [] t failed f bytes o → ((m : Content) → ¬ (Encodes bytes m)) → reply_in o.sent ≡ None
replied_nothing pairs s range t failed f bytes o a no_message =
    let none = relays_nothing f bytes a.relayed no_message (subst (λ c. SendsToPeer c f bytes a.relayed) (empty_table t) a.sends) in
    let decided = a.decides.no_message no_message in
    ap reply_in (a.sent ∙ ap (λ r. option_or (to_peer r) (to_client f a.decided.reply)) none ∙ ap (λ x. to_client f x.reply) decided)

pub sends_reply : {H G : Type 0} (pairs : Bool) (s : Config) (range : ℕ × ℕ) (new : MachineState H G) (t : ℕ) (failed : Bool) (f : FiveTuple) (bytes : List ℕ) (m : Content) (sent : Option Sent) →
    Answered (record { config = s; keys = no_keys; range = range; pairs = pairs }) new [] t failed (Arrives.FromClient f bytes) sent → Encodes bytes m → s ≡ profile →
    reply_in sent ≡ answer f t (record { bytes = bytes; content = m })
sends_reply pairs s range new t failed f bytes m sent a encoded same = ap reply_in (sym a.sent_is) ∙ replied_to pairs s range t failed f bytes m a.outcome a.answers encoded same

pub sends_no_reply : {H G : Type 0} (pairs : Bool) (s : Config) (range : ℕ × ℕ) (new : MachineState H G) (t : ℕ) (failed : Bool) (f : FiveTuple) (bytes : List ℕ) (sent : Option Sent) →
    Answered (record { config = s; keys = no_keys; range = range; pairs = pairs }) new [] t failed (Arrives.FromClient f bytes) sent → ((m : Content) → ¬ (Encodes bytes m)) → reply_in sent ≡ None
sends_no_reply pairs s range new t failed f bytes sent a no_message = ap reply_in (sym a.sent_is) ∙ replied_nothing pairs s range t failed f bytes a.outcome a.answers no_message

-- ---- The machine

pub is_after : {H G : Type 0} (m : MachineState H G) (t : ℕ) →
    m.table ≡ record { bounds = profile.limits; moment = t; contents = no_contents; room = None } → IsAfter m []
is_after m t e = record { fitting = tt; late = omega arith; agrees = ap (λ s. s.contents) e ∙ sym (empty_table m.table.moment) }

pub nothing_if_no_bytes : {X : Type 0} (items : X → List ℕ) (r : Option X) → option_map items r ≡ None → r ≡ None
nothing_if_no_bytes items None e = refl
nothing_if_no_bytes items (Some x) e = absurd (none-some (items x) (sym e))

-- The readers of snapshots read what the encodings encode, and what they read is a table in its ranges.
use Rattle.std.proofs.Common.{◌≡◌, ℕ, ◌+◌, ◌-◌, ◌^◌, ◌<◌, ◌≤◌, Bool, true, false, cond, not, ◌&&◌, ◌||◌, eqb, leb, ltb, T, Some, None, List, [], ◌++◌, length, Ok, refl, sym, ap, subst, ◌∙◌, arith, inl, inr, ◌*◌, ◌==◌, ◌%◌, ◌⊎◌, IfSome, Option, slice_get, nat_cmp, is_lt, Ordering, Less, Equal, Greater, eq-eqb, eqb-true, leb-true, le-leb, ltb-true}
use Rattle.std.specs.Int.{w16, w32, w64, to_be_bytes}
use Rattle.std.specs.List.{AllByRecursion, list_any}
use Rattle.std.specs.Cmp.{IsTotalOrder}
use Rattle.std.specs.FinMap as fin
use Rattle.std.specs.FinMap.{FinMap, IsAntisymmetric, entries-from_sorted, entries_sorted, len-entries, nat_cmp-IsAntisymmetric, same_entries_map}
use Rattle.std.proofs.lemmas.Cmp.{nat_cmp_total}
use Rattle.turn_history.specs.Prelude.{IsEndpoint, IsEntryAt, IsTuple, IsTokenAfter, is_peer, Allocation, Entry, FiveTuple, Bounds, Token}
use Rattle.turn_history.specs.Fitting.{IsChannelNumber}
use Rattle.turn_history.specs.declared.channel.Channel.{Channel}
use Rattle.turn_history.proofs.Entries.{all_entries, of_entries}
use Rattle.turn_history.proofs.Maps.{tuple_total}
use Rattle.turn_history.proofs.Tests.{peer_is, is_peer-same}
use Rattle.turn_record.specs.Prelude.{each, endpoint, five_tuple, allocation, mark, permission, permissions, channel, channels, entry, entry_size, max_entry, ◌>>=◌, Field, last_passes, passes, byte_at, number_at, is_even, token_at, endpoint_at, tuple_at, channel_number_at, count_at, allocation_at, list_at, expiry_at, address_after, permission_at, permission_list_at, permissions_at, number_after, other_peer_at, channel_at, channel_list_at, channels_at, tuple_after, is_free_after, mark_byte_at, token_if_at, mark_at, entry_with, entry_at, total_at}
use Rattle.turn_record.specs.declared.error.DecodeError.TheVariants.{BadValue, OutOfOrder}
use Rattle.turn_record.proofs.Acts.{FitsAllocation, FitsTokenOf, allocation_fits, fits_allocation, allocation_passes, plain, token_if, next_small, even_is, any_or, and_is, and_from, or_is, not_is, not_from, lt_from, codec_token, codec_endpoint, codec_tuple, codec_channel_number, codec_count, count_passes, codec_allocation}
use Rattle.turn_record.proofs.Apart.{each_more, each_both, each_alone, alone_each, Apart, AreOne, apart_new, new_apart}
use Rattle.turn_record.proofs.Fronts.{Passes, good_passes}
use Rattle.turn_record.proofs.Readers.{Codec, EachAfter, IsBytes, Reads, at_most, chain, chain_by, codec32, codec64, codec_as, codec_byte, codec_counted, codec_judged, in_words, in_words_under, made, one}
use Rattle.turn_record.proofs.Rising.{sorted_rising, rising_sorted, true_of}
use Rattle.turn_types.specs.Prelude.{tuple_cmp, AreInRange, end_of_moments, permission_lifetime, channel_lifetime, max_lifetime}
use Rattle.turn_record.specs.declared.version.Version.{Version}
use Rattle.turn_record.specs.declared.version.Version.TheVariants.{V1, V2}

-- a moment after another, and not by more than so many seconds
abbrev pub IsAhead : ℕ → ℕ → ℕ → Type 0
IsAhead t most x = (t < x) × (x ≤ t + most)

pub codec_expiry : {U : Type 0} (t most : ℕ) → (U → t + most < 2 ^ 64) → Codec U (expiry_at t most) (to_be_bytes w64) (IsAhead t most) 8
unfolding expiry_at
codec_expiry t most room =
    in_words_under _ _ _ _ _ (codec_judged (number_at w64) (to_be_bytes w64) (λ n. n < 2 ^ 64) (λ x. ltb t x && leb x (t + most)) BadValue refl codec64)
    (λ n. refl) (λ n h. let p = and_is _ _ h.1 in (ltb-true _ _ p.0, leb-true _ _ p.1))
    (λ under n h. (omega (arith, h.1, room under), and_from _ _ (lt_from _ _ h.0) (le-leb _ _ h.1)))

-- the map of a list that rises, and the list of a map
pub map_again : {K X : Type 0} (R : K → K → Ordering) (m : FinMap R X) → m ≡ fin.from_sorted (fin.entries m)
map_again R m = same_entries_map m (fin.from_sorted (fin.entries m)) (sym (entries-from_sorted R (fin.entries m) (entries_sorted m)))

passes_alike : {A : Type 0} (t u : A → Bool) → ((x : A) → t x ≡ u x) → (xs : List A) → last_passes t xs ≡ last_passes u xs
passes_alike t u h xs = by_last (slice_get xs (length xs - 1))
  where
    by_last : (o : _) → passes t o ≡ passes u o
    by_last None = refl
    by_last (Some x) = h x

pub less_is : (a b : ℕ) → is_lt (nat_cmp a b) ≡ ltb a b
less_is a b = by_tests (ltb a b) (a == b)
  where
    by_tests : (x y : Bool) → is_lt (cond x Less (cond y Equal Greater)) ≡ x
    by_tests true y = refl
    by_tests false true = refl
    by_tests false false = refl

-- a number above the last one
pub above_is : {X : Type 0} (before : List (ℕ × X)) (k : ℕ) → last_passes (λ last. ltb last.0 k) before ≡ last_passes (λ last. is_lt (nat_cmp last.0 k)) before
above_is before k = passes_alike _ _ (λ last. sym (less_is last.0 k)) before

-- ---- Lists that are maps

abbrev pub IsAbove : {X : Type 0} → List (ℕ × X) → ℕ × X → Type 0
IsAbove before x = last_passes (λ last. ltb last.0 x.0) before ≡ true

-- each above the one before, and what more is asked of it
abbrev pub Rising : {X : Type 0} → (List (ℕ × X) → ℕ × X → Type 0) → List (ℕ × X) → ℕ × X → Type 0
Rising Q before x = IsAbove before x × Q before x

pub list_rises : {X : Type 0} (Q : List (ℕ × X) → ℕ × X → Type 0) (xs : List (ℕ × X)) → EachAfter (Rising Q) [] xs → T (fin.is_sorted nat_cmp xs)
list_rises Q xs h = sorted_rising nat_cmp nat_cmp_total xs (each_more _ _ (λ before x fits. sym (above_is before x.0) ∙ fits.0) [] xs h)

pub entries_rise : {X : Type 0} (Q : List (ℕ × X) → ℕ × X → Type 0) (m : FinMap nat_cmp X) → EachAfter Q [] (fin.entries m) → EachAfter (Rising Q) [] (fin.entries m)
entries_rise Q m h = each_both _ _ _ (λ before x up more. (above_is before x.0 ∙ up, more)) [] (fin.entries m) (rising_sorted nat_cmp nat_cmp_total (fin.entries m) (entries_sorted m)) h

abbrev FitsList : {X : Type 0} → ℕ → (List (ℕ × X) → ℕ × X → Type 0) → List (ℕ × X) → Type 0
FitsList limit Q xs = (length xs ≤ limit) × EachAfter (Rising Q) [] xs

codec_list : {X U : Type 0} {n : ℕ} (item : List (ℕ × X) → List ℕ → Field (ℕ × X)) (s : ℕ × X → List ℕ) (limit : ℕ) (Q : List (ℕ × X) → ℕ × X → Type 0) → (U → limit < 256) → ((before : List (ℕ × X)) → Codec U (item before) s (Rising Q before) n)
    → Codec U (list_at item limit) (λ xs. one (length xs) ++ each s xs) (FitsList limit Q) (1 + limit * n)
codec_list item s limit Q small codec =
    in_words _ _ _ _ _ (codec_counted (count_at 0 limit) one (λ n. (0 ≤ n) × (n ≤ limit)) limit item s (Rising Q) (codec_count 0 limit small) (count_passes 0 limit) codec)
    (λ xs. refl) (λ xs h. (h.0.1, h.1)) (λ xs h. ((omega arith, h.0), h.1))

-- what is read so is sorted
pub sorted_list : {X : Type 0} {encode : List (ℕ × X) → List ℕ} {limit : ℕ} {Q : List (ℕ × X) → ℕ × X → Type 0} (read : List ℕ → Field (List (ℕ × X))) → Reads read encode (FitsList limit Q)
    → (bytes : List ℕ) → IsBytes bytes → (x : List (ℕ × X) × List ℕ) → read bytes ≡ Ok x → fin.is_sorted nat_cmp x.0 ≡ true
sorted_list {Q = Q} read reads bytes fits x e = true_of _ (list_rises Q x.0 (reads.takes bytes x.0 x.1 fits e).fits.1)

codec_map : {X U : Type 0} {n : ℕ} (list : List ℕ → Field (List (ℕ × X))) (s : ℕ × X → List ℕ) (limit : ℕ) (Q : List (ℕ × X) → ℕ × X → Type 0) → Codec U list (λ xs. one (length xs) ++ each s xs) (FitsList limit Q) n
    → Codec U (λ bytes. list bytes >>= λ xs. Ok (fin.from_sorted {R = nat_cmp} xs.0, xs.1)) (λ m. one (fin.len m) ++ each s (fin.entries m)) (λ m. (fin.len m ≤ limit) × EachAfter (Rising Q) [] (fin.entries m)) n
codec_map {X} list s limit Q codec =
    let sorted = λ (xs : List (ℕ × X)) (h : FitsList limit Q xs). entries-from_sorted nat_cmp xs (list_rises Q xs h.1) in
    let size = λ (xs : List (ℕ × X)) (h : FitsList limit Q xs). len-entries (fin.from_sorted {R = nat_cmp} xs) ∙ ap length (sorted xs h) in
    codec_as list _ (FitsList limit Q) (λ xs. fin.from_sorted {R = nat_cmp} xs) _ _ codec
    (λ xs h. rw (size xs h, sorted xs h) refl) (λ xs h. (omega (arith, size xs h, h.0), subst (EachAfter (Rising Q) []) (sym (sorted xs h)) h.1))
    (λ m h. (fin.entries m, map_again nat_cmp m, (omega (arith, len-entries m, h.0), h.1)))

-- ---- Permissions

abbrev pub IsPermission : ℕ → ℕ × ℕ → Type 0
IsPermission t p = (p.0 < 2 ^ 32) × IsAhead t permission_lifetime p.1

abbrev pub FitsPermission : ℕ → List (ℕ × ℕ) → ℕ × ℕ → Type 0
FitsPermission t = Rising (λ before. IsPermission t)

codec_address_after : {U : Type 0} (before : List (ℕ × ℕ)) → Codec U (address_after before) (to_be_bytes w32) (λ a. (a < 2 ^ 32) × (last_passes (λ last. ltb last.0 a) before ≡ true)) 4
unfolding address_after
codec_address_after before = codec_judged (number_at w32) (to_be_bytes w32) (λ n. n < 2 ^ 32) (λ a. last_passes (λ last. ltb last.0 a) before) OutOfOrder refl codec32

codec_permission : {U : Type 0} (t : ℕ) → (U → t + permission_lifetime < 2 ^ 64) → (before : List (ℕ × ℕ)) → Codec U (permission_at t before) permission (FitsPermission t before) 12
unfolding permission_at
codec_permission t room before =
    in_words (permission_at t before) _ permission _ (FitsPermission t before)
    (chain (address_after before) (to_be_bytes w32) (λ a. (a < 2 ^ 32) × (last_passes (λ last. ltb last.0 a) before ≡ true)) (λ a bytes. expiry_at t permission_lifetime bytes >>= λ x. Ok ((a, x.0), x.1)) _ (λ (p : ℕ × ℕ). p.0) (λ p. Unit {0}) _ (codec_address_after before)
    (λ a. chain (expiry_at t permission_lifetime) (to_be_bytes w64) (IsAhead t permission_lifetime) (λ x bytes. Ok ((a, x), bytes)) _ (λ (p : ℕ × ℕ). p.1) (λ p. Unit {0} × (p.0 ≡ a)) _ (codec_expiry t 300 room)
    (λ x. made ((a, x)) (λ p. (Unit {0} × (p.0 ≡ a)) × (p.1 ≡ x)) ((tt, refl), refl) (λ p q. rw (← q.0.1, ← q.1) refl))))
    (λ p. refl) (λ p h. (h.1.0.1, (h.1.0.0, h.1.1.0))) (λ p h. (tt, ((h.1.0, h.0), (h.1.1, tt))))

pub codec_permission_list : {U : Type 0} (b : Bounds) → (U → AreInRange b) → (t : ℕ) → (U → t + permission_lifetime < 2 ^ 64) → Codec U (permission_list_at b t) (λ ps. one (length ps) ++ each permission ps) (FitsList b.permissions (λ before. IsPermission t)) (1 + b.permissions * 12)
unfolding permission_list_at
codec_permission_list b range t room = codec_list (permission_at t) permission b.permissions (λ before. IsPermission t) (λ under. omega (arith, (range under).permissions.1)) (codec_permission t room)

-- what a table holds of permissions
abbrev pub ArePermissions : Bounds → ℕ → FinMap nat_cmp ℕ → Type 0
ArePermissions b t m = (fin.len m ≤ b.permissions) × ((a x : ℕ) → fin.get m a ≡ Some x → IsPermission t (a, x))

codec_permissions : {U : Type 0} (b : Bounds) → (U → AreInRange b) → (t : ℕ) → (U → t + permission_lifetime < 2 ^ 64) → Codec U (permissions_at b t) permissions (ArePermissions b t) (1 + b.permissions * 12)
unfolding permissions
codec_permissions b range t room =
    in_words _ _ permissions _ (ArePermissions b t) (codec_map (permission_list_at b t) permission b.permissions (λ before. IsPermission t) (codec_permission_list b range t room)) (λ m. refl)
    (λ m h. (h.0, of_entries nat_cmp_total nat_cmp-IsAntisymmetric (IsPermission t) m (each_alone (IsPermission t) [] (fin.entries m) (each_more _ _ (λ before p fits. fits.1) [] (fin.entries m) h.1))))
    (λ m h. (h.0, entries_rise _ m (alone_each (IsPermission t) [] (fin.entries m) (all_entries nat_cmp_total nat_cmp-IsAntisymmetric (IsPermission t) m h.1))))

-- ---- Channels

abbrev pub IsChannel : ℕ → ℕ × Channel → Type 0
IsChannel t c = IsChannelNumber c.0 × (IsEndpoint c.1.peer × IsAhead t channel_lifetime c.1.expiry)

-- they have one peer
abbrev pub same_peer : ℕ × Channel → ℕ × Channel → Bool
same_peer c d = is_peer c.1.peer d.1

abbrev IsNewChannel : ℕ → List (ℕ × Channel) → ℕ × Channel → Type 0
IsNewChannel t before c = (list_any (same_peer c) before ≡ false) × IsChannel t c

abbrev pub FitsChannel : ℕ → List (ℕ × Channel) → ℕ × Channel → Type 0
FitsChannel t = Rising (IsNewChannel t)

codec_number_after : {U : Type 0} (before : List (ℕ × Channel)) → Codec U (number_after before) (to_be_bytes w16) (λ n. IsChannelNumber n × (last_passes (λ last. ltb last.0 n) before ≡ true)) 2
unfolding number_after
codec_number_after before = codec_judged channel_number_at (to_be_bytes w16) IsChannelNumber (λ n. last_passes (λ last. ltb last.0 n) before) OutOfOrder refl codec_channel_number

codec_other_peer : {U : Type 0} (before : List (ℕ × Channel)) → Codec U (other_peer_at before) endpoint (λ p. IsEndpoint p × (list_any (λ c. is_peer p c.1) before ≡ false)) 6
unfolding other_peer_at
codec_other_peer before =
    in_words _ _ _ _ _ (codec_judged endpoint_at endpoint IsEndpoint (λ p. not (list_any (λ c. is_peer p c.1) before)) BadValue refl codec_endpoint)
    (λ p. refl) (λ p h. (h.0, not_is _ h.1)) (λ p h. (h.0, not_from _ h.1))

codec_channel : {U : Type 0} (t : ℕ) → (U → t + channel_lifetime < 2 ^ 64) → (before : List (ℕ × Channel)) → Codec U (channel_at t before) channel (FitsChannel t before) 16
unfolding channel_at
codec_channel t room before =
    in_words (channel_at t before) _ channel _ (FitsChannel t before)
    (chain (number_after before) (to_be_bytes w16) (λ n. IsChannelNumber n × (last_passes (λ last. ltb last.0 n) before ≡ true)) (λ n bytes. other_peer_at before bytes >>= λ p. expiry_at t channel_lifetime p.1 >>= λ x. Ok ((n, record { peer = p.0; expiry = x.0 }), x.1)) _ (λ (c : ℕ × Channel). c.0) (λ c. Unit {0}) _ (codec_number_after before)
    (λ n. chain (other_peer_at before) endpoint (λ p. IsEndpoint p × (list_any (λ c. is_peer p c.1) before ≡ false)) (λ p bytes. expiry_at t channel_lifetime bytes >>= λ x. Ok ((n, record { peer = p; expiry = x.0 }), x.1)) _ (λ (c : ℕ × Channel). c.1.peer) (λ c. Unit {0} × (c.0 ≡ n)) _ (codec_other_peer before)
    (λ p. chain (expiry_at t channel_lifetime) (to_be_bytes w64) (IsAhead t channel_lifetime) (λ x bytes. Ok ((n, record { peer = p; expiry = x }), bytes)) _ (λ (c : ℕ × Channel). c.1.expiry) (λ c. (Unit {0} × (c.0 ≡ n)) × (c.1.peer ≡ p)) _ (codec_expiry t 600 room)
    (λ x. made ((n, record { peer = p; expiry = x })) (λ c. ((Unit {0} × (c.0 ≡ n)) × (c.1.peer ≡ p)) × (c.1.expiry ≡ x)) (((tt, refl), refl), refl) (λ c q. rw (← q.0.0.1, ← q.0.1, ← q.1) refl)))))
    (λ c. refl) (λ c h. (h.1.0.1, (h.1.1.0.1, (h.1.0.0, (h.1.1.0.0, h.1.1.1.0))))) (λ c h. (tt, ((h.1.1.0, h.0), ((h.1.1.1.0, h.1.0), (h.1.1.1.1, tt)))))

pub codec_channel_list : {U : Type 0} (b : Bounds) → (U → AreInRange b) → (t : ℕ) → (U → t + channel_lifetime < 2 ^ 64) → Codec U (channel_list_at b t) (λ cs. one (length cs) ++ each channel cs) (FitsList b.channels (IsNewChannel t)) (1 + b.channels * 16)
unfolding channel_list_at
codec_channel_list b range t room = codec_list (channel_at t) channel b.channels (IsNewChannel t) (λ under. omega (arith, (range under).channels.1)) (codec_channel t room)

alike : (a b : Bool) → (a ≡ true → b ≡ true) → (b ≡ true → a ≡ true) → a ≡ b
alike true b to from = sym (to refl)
alike false true to from = from refl
alike false false to from = refl

same_peers : (c d : ℕ × Channel) → same_peer c d ≡ same_peer d c
same_peers c d = alike _ _ (λ e. is_peer-same d.1.peer c.1 (sym (peer_is c.1.peer d.1 e))) (λ e. is_peer-same c.1.peer d.1 (sym (peer_is d.1.peer c.1 e)))

-- elements that are the same at one key alone, by the keys of a map
pub by_keys : {K X : Type 0} (R : K → K → Ordering) → IsTotalOrder R → IsAntisymmetric R → (same : K × X → K × X → Bool) (m : FinMap R X) → Apart R same (fin.entries m)
    → (k l : K) (x y : X) → fin.get m k ≡ Some x → fin.get m l ≡ Some y → same (k, x) (l, y) ≡ true → k ≡ l
by_keys R o exact same m apart k l x y is is2 =
    of_entries o exact (AreOne R same (k, x)) m (of_entries o exact (λ p. AllByRecursion (AreOne R same p) (fin.entries m)) m apart k x is) l y is2

pub from_keys : {K X : Type 0} (R : K → K → Ordering) → IsTotalOrder R → IsAntisymmetric R → (same : K × X → K × X → Bool) (m : FinMap R X)
    → ((k l : K) (x y : X) → fin.get m k ≡ Some x → fin.get m l ≡ Some y → same (k, x) (l, y) ≡ true → k ≡ l) → Apart R same (fin.entries m)
from_keys R o exact same m h =
    all_entries o exact (λ p. AllByRecursion (AreOne R same p) (fin.entries m)) m (λ k x is. all_entries o exact (AreOne R same (k, x)) m (λ l y is2. h k l x y is is2))

-- what a table holds of channels
pub record AreChannels (b : Bounds) (t : ℕ) (m : FinMap nat_cmp Channel) : Type 0 where
  pub few : fin.len m ≤ b.channels
  pub values : (n : ℕ) (c : Channel) → fin.get m n ≡ Some c → IsChannel t (n, c)
  pub apart : (n k : ℕ) (x y : Channel) → fin.get m n ≡ Some x → fin.get m k ≡ Some y → x.peer ≡ y.peer → n ≡ k

abbrev FitsChannels : Bounds → ℕ → FinMap nat_cmp Channel → Type 0
FitsChannels b t m = (fin.len m ≤ b.channels) × EachAfter (Rising (IsNewChannel t)) [] (fin.entries m)

are_channels : (b : Bounds) (t : ℕ) (m : FinMap nat_cmp Channel) → FitsChannels b t m → AreChannels b t m
are_channels b t m h =
    let values = each_alone (IsChannel t) [] (fin.entries m) (each_more _ _ (λ before c fits. fits.1.1) [] (fin.entries m) h.1) in
    let apart = apart_new nat_cmp same_peer nat_cmp_total same_peers (fin.entries m) (each_more _ _ (λ before c fits. fits.1.0) [] (fin.entries m) h.1) in
    record {
      few = h.0;
      values = of_entries nat_cmp_total nat_cmp-IsAntisymmetric (IsChannel t) m values;
      apart = λ n k x y is is2 e. by_keys nat_cmp nat_cmp_total nat_cmp-IsAntisymmetric same_peer m apart n k x y is is2 (is_peer-same x.peer y (sym e));
    }

channels_are : (b : Bounds) (t : ℕ) (m : FinMap nat_cmp Channel) → AreChannels b t m → FitsChannels b t m
channels_are b t m h =
    let apart = from_keys nat_cmp nat_cmp_total nat_cmp-IsAntisymmetric same_peer m (λ n k x y is is2 e. h.apart n k x y is is2 (sym (peer_is x.peer y e))) in
    let new = new_apart nat_cmp same_peer nat_cmp_total same_peers (fin.entries m) (entries_sorted m) apart in
    let values = alone_each (IsChannel t) [] (fin.entries m) (all_entries nat_cmp_total nat_cmp-IsAntisymmetric (IsChannel t) m h.values) in
    (h.few, entries_rise (IsNewChannel t) m (each_both _ _ _ (λ before c other value. (other, value)) [] (fin.entries m) new values))

codec_channels : {U : Type 0} (b : Bounds) → (U → AreInRange b) → (t : ℕ) → (U → t + channel_lifetime < 2 ^ 64) → Codec U (channels_at b t) channels (AreChannels b t) (1 + b.channels * 16)
unfolding channels
codec_channels b range t room =
    in_words _ _ channels _ (AreChannels b t) (codec_map (channel_list_at b t) channel b.channels (IsNewChannel t) (codec_channel_list b range t room)) (λ m. refl)
    (are_channels b t) (channels_are b t)

-- ---- Tokens of entries

-- the token that an even port can have beside it
abbrev FitsEven : ℕ → Token → Type 0
FitsEven port k = (port % 2 ≡ 0) × FitsTokenOf (port + 1) k

-- a token beside a port, as a version can hold it
abbrev pub FitsMark : Version → ℕ → Option Token → Type 0
FitsMark V1 port token = token ≡ None
FitsMark V2 port token = IfSome token (FitsEven port)

abbrev FitsMarkByte : ℕ → ℕ → Type 0
FitsMarkByte port m = (m ≡ 0) ⊎ ((m ≡ 1) × (port % 2 ≡ 0))

mark_byte_from : (port m : ℕ) → FitsMarkByte port m → (m < 256) × ((eqb m 0 || (eqb m 1 && is_even port)) ≡ true)
mark_byte_from port m (inl e) = (omega (arith, e), rw e refl)
mark_byte_from port m (inr h) = (omega (arith, h.0), rw (and_from (eqb m 1) (is_even port) (eq-eqb m 1 h.0) (eq-eqb (port % 2) 0 h.1)) (any_or (eqb m 0)))

mark_byte_words : (port m : ℕ) → (eqb m 0 ≡ true) ⊎ ((eqb m 1 && is_even port) ≡ true) → FitsMarkByte port m
mark_byte_words port m (inl e) = inl (eqb-true _ _ e)
mark_byte_words port m (inr e) = let p = and_is _ _ e in inr (eqb-true _ _ p.0, even_is port p.1)

codec_mark_byte : {U : Type 0} (port : ℕ) → Codec U (mark_byte_at port) one (FitsMarkByte port) 1
unfolding mark_byte_at
codec_mark_byte port =
    in_words _ _ _ _ _ (codec_judged byte_at one (λ n. n < 256) (λ m. eqb m 0 || (eqb m 1 && is_even port)) BadValue refl codec_byte)
    (λ m. refl) (λ m h. mark_byte_words port m (or_is _ _ h.1)) (λ m h. mark_byte_from port m h)

mark_byte_passes : (port : ℕ) → Passes (mark_byte_at port) (FitsMarkByte port)
unfolding mark_byte_at
mark_byte_passes port bytes m rest e = mark_byte_words port m (or_is _ _ (good_passes byte_at (λ m. eqb m 0 || (eqb m 1 && is_even port)) BadValue bytes m rest e))

abbrev mark_byte : Option Token → ℕ
mark_byte None = 0
mark_byte (Some token) = 1

abbrev Marked : ℕ → ℕ → Option Token → Type 0
Marked port m y = (Unit {0} × (mark_byte y ≡ m)) × IfSome y (FitsEven port)

from_unmarked : (port : ℕ) (y : Option Token) → Marked port 0 y → (x : Unit {0}) × (y ≡ None) × (Unit {0} × Unit {0})
from_unmarked port None h = (tt, refl, (tt, tt))
from_unmarked port (Some k) h = absurd cc

codec_unmarked : {U : Type 0} (port : ℕ) → Codec U (token_if_at port 0) token_if (Marked port 0) 8
unfolding token_if_at
codec_unmarked port = at_most _ _ _ _ (codec_as _ _ _ (λ x. None) token_if (Marked port 0) (made {B = Unit {0}} tt (λ x. Unit {0}) tt (λ x h. refl)) (λ x h. refl) (λ x h. ((tt, refl), tt)) (from_unmarked port)) (omega arith)

from_marked : (port : ℕ) (y : Option Token) → Marked port 1 y → (k : Token) × (y ≡ Some k) × FitsTokenOf (port + 1) k
from_marked port None h = absurd cc
from_marked port (Some k) h = (k, refl, h.1.1)

codec_marked : {U : Type 0} (port : ℕ) → port % 2 ≡ 0 → Codec U (token_if_at port 1) token_if (Marked port 1) 8
unfolding token_if_at
codec_marked port even =
    codec_as (token_at (port + 1)) (λ k. k.0) (FitsTokenOf (port + 1)) (λ k. Some k) token_if (Marked port 1) (codec_token (port + 1)) (λ k h. refl) (λ k h. ((tt, refl), (even, h))) (from_marked port)

codec_token_if : {U : Type 0} (port m : ℕ) → FitsMarkByte port m → Codec U (token_if_at port m) token_if (Marked port m) 8
codec_token_if {U} port m (inl e) = subst (λ (k : ℕ). Codec U (token_if_at port k) token_if (Marked port k) 8) (sym e) (codec_unmarked port)
codec_token_if {U} port m (inr h) = subst (λ (k : ℕ). Codec U (token_if_at port k) token_if (Marked port k) 8) (sym h.0) (codec_marked port h.1)

marks : (y : Option Token) → one (mark_byte y) ++ token_if y ≡ mark V2 y
marks None = refl
marks (Some k) = refl

mark_fits : (port : ℕ) (y : Option Token) → IfSome y (FitsEven port) → FitsMarkByte port (mark_byte y)
mark_fits port None h = inl refl
mark_fits port (Some k) h = inr (refl, h.0)

-- the max size of a mark and its token, in bytes
abbrev mark_size : Version → ℕ
mark_size V1 = 0
mark_size V2 = 9

codec_mark : {U : Type 0} (v : Version) (port : ℕ) → Codec U (mark_at v port) (mark v) (FitsMark v port) (mark_size v)
unfolding mark_at
codec_mark V1 port = in_words _ _ (mark V1) _ (FitsMark V1 port) (made None (λ y. y ≡ None) refl (λ y e. e)) (λ y. refl) (λ y h. h.0) (λ y h. (h, tt))
codec_mark V2 port =
    in_words (mark_at V2 port) _ (mark V2) _ (FitsMark V2 port)
    (chain_by (mark_byte_at port) one (FitsMarkByte port) (λ m bytes. token_if_at port m bytes) (λ m y. token_if y) mark_byte (λ y. Unit {0}) (λ m y. IfSome y (FitsEven port)) (codec_mark_byte port) (mark_byte_passes port) (codec_token_if port))
    marks (λ y h. h.1.1) (λ y h. (tt, (mark_fits port y h, h)))

-- ---- Entries

-- a token that a version can hold
abbrev pub HoldsToken : Version → Option Token → Type 0
HoldsToken V1 token = token ≡ None
HoldsToken V2 token = Unit {0}

mark_after : (v : Version) (port : ℕ) (token : Option Token) → FitsMark v port token → HoldsToken v token × IfSome token (IsTokenAfter port)
mark_after V1 port token h = (h, subst (λ o. IfSome o (IsTokenAfter port)) (sym h) tt)
mark_after V2 port None h = (tt, tt)
mark_after V2 port (Some k) h = (tt, (h.0, h.1.1))

holds_mark : (v : Version) (port : ℕ) (token : Option Token) → port < 2 ^ 16 → HoldsToken v token → IfSome token (IsTokenAfter port) → FitsMark v port token
holds_mark V1 port token small h after = h
holds_mark V2 port None small h after = tt
holds_mark V2 port (Some k) small h after = (after.0, (next_small port small after.0, after.1))

abbrev pub IsOne : Version → Bounds → ℕ → FiveTuple × Entry → Type 0
IsOne v b t p = IsEntryAt b t p.0 p.1 × HoldsToken v p.1.token

-- they have one port
abbrev pub same_port : FiveTuple × Entry → FiveTuple × Entry → Bool
same_port p q = q.1.port == p.1.port

abbrev pub FitsEntry : Version → Bounds → ℕ → List (FiveTuple × Entry) → FiveTuple × Entry → Type 0
FitsEntry v b t before p = (last_passes (λ last. is_lt (tuple_cmp last.0 p.0)) before ≡ true) × ((list_any (same_port p) before ≡ false) × IsOne v b t p)

codec_tuple_after : {U : Type 0} (before : List (FiveTuple × Entry)) → Codec U (tuple_after before) five_tuple (λ f. IsTuple f × (last_passes (λ last. is_lt (tuple_cmp last.0 f)) before ≡ true)) 12
unfolding tuple_after
codec_tuple_after before = codec_judged tuple_at five_tuple IsTuple (λ f. last_passes (λ last. is_lt (tuple_cmp last.0 f)) before) OutOfOrder refl codec_tuple

abbrev plain_of : Entry → Allocation
plain_of e = plain e.user e.port e.granted e.tx

-- an entry that a table may hold, from its fields, and its lists again
is_entry : (b : Bounds) (t : ℕ) (free : ℕ → Bool) (f : FiveTuple) (e : Entry) → IsTuple f → FitsAllocation b free (plain_of e) → IfSome e.token (IsTokenAfter e.port) → IsAhead t max_lifetime e.expiry → ArePermissions b t e.permissions → AreChannels b t e.channels → IsEntryAt b t f e
is_entry b t free f e tuple a token x ps cs = record {
  tuple = tuple;
  values = record {
    made = allocation_fits b free (plain_of e) e.token a token;
    expiry = x;
    permissions = λ k v is. let p = ps.1 k v is in (p.0, p.1.0, p.1.1);
    channels = λ n c is. let p = cs.values n c is in (p.0, p.1.0, p.1.1.0, p.1.1.1);
  };
  permissions = ps.0;
  channels = cs.few;
  peers = cs.apart;
}

its_permissions : (b : Bounds) (t : ℕ) (f : FiveTuple) (e : Entry) → IsEntryAt b t f e → ArePermissions b t e.permissions
its_permissions b t f e is = (is.permissions, λ k v at. let p = is.values.permissions k v at in (p.0, (p.1, p.2)))

its_channels : (b : Bounds) (t : ℕ) (f : FiveTuple) (e : Entry) → IsEntryAt b t f e → AreChannels b t e.channels
its_channels b t f e is = record { few = is.channels; values = λ n c at. let p = is.values.channels n c at in (p.0, (p.1, (p.2, p.3))); apart = is.peers }

mark_room : (v : Version) → 42 + mark_size v ≡ entry_size v
mark_room V1 = refl
mark_room V2 = refl

pub codec_entry : {U : Type 0} (v : Version) (b : Bounds) → (U → AreInRange b) → (t : ℕ) → (U → t + max_lifetime < 2 ^ 64) → (before : List (FiveTuple × Entry)) → Codec U (entry_at v b t before) (entry v) (FitsEntry v b t before) (max_entry v b)
unfolding entry_at entry
codec_entry v b range t room before =
    at_most _ _ _ _
    (in_words (entry_at v b t before) _ (entry v) _ (FitsEntry v b t before)
    (chain (tuple_after before) five_tuple (λ f. IsTuple f × (last_passes (λ last. is_lt (tuple_cmp last.0 f)) before ≡ true)) (λ f bytes. allocation_at b (is_free_after before) bytes >>= λ a. mark_at v a.0.port a.1 >>= λ k. expiry_at t max_lifetime k.1 >>= λ x. permissions_at b t x.1 >>= λ ps. channels_at b t ps.1 >>= λ cs. Ok ((f, entry_with a.0 k.0 x.0 ps.0 cs.0), cs.1)) _ (λ (p : FiveTuple × Entry). p.0) (λ p. Unit {0}) _ (codec_tuple_after before)
    (λ f. chain_by (allocation_at b (is_free_after before)) allocation (FitsAllocation b (is_free_after before)) (λ a bytes. mark_at v a.port bytes >>= λ k. expiry_at t max_lifetime k.1 >>= λ x. permissions_at b t x.1 >>= λ ps. channels_at b t ps.1 >>= λ cs. Ok ((f, entry_with a k.0 x.0 ps.0 cs.0), cs.1)) _ (λ (p : FiveTuple × Entry). plain_of p.1) (λ p. Unit {0} × (p.0 ≡ f)) _ (codec_allocation b range (is_free_after before)) (allocation_passes b (is_free_after before))
    (λ a no_token. chain (mark_at v a.port) (mark v) (FitsMark v a.port) (λ k bytes. expiry_at t max_lifetime bytes >>= λ x. permissions_at b t x.1 >>= λ ps. channels_at b t ps.1 >>= λ cs. Ok ((f, entry_with a k x.0 ps.0 cs.0), cs.1)) _ (λ (p : FiveTuple × Entry). p.1.token) (λ p. (Unit {0} × (p.0 ≡ f)) × (plain_of p.1 ≡ a)) _ (codec_mark v a.port)
    (λ k. chain (expiry_at t max_lifetime) (to_be_bytes w64) (IsAhead t max_lifetime) (λ x bytes. permissions_at b t bytes >>= λ ps. channels_at b t ps.1 >>= λ cs. Ok ((f, entry_with a k x ps.0 cs.0), cs.1)) _ (λ (p : FiveTuple × Entry). p.1.expiry) (λ p. ((Unit {0} × (p.0 ≡ f)) × (plain_of p.1 ≡ a)) × (p.1.token ≡ k)) _ (codec_expiry t 3600 room)
    (λ x. chain (permissions_at b t) permissions (ArePermissions b t) (λ ps bytes. channels_at b t bytes >>= λ cs. Ok ((f, entry_with a k x ps cs.0), cs.1)) _ (λ (p : FiveTuple × Entry). p.1.permissions) (λ p. (((Unit {0} × (p.0 ≡ f)) × (plain_of p.1 ≡ a)) × (p.1.token ≡ k)) × (p.1.expiry ≡ x)) _ (codec_permissions b range t (λ under. omega (arith, room under)))
    (λ ps. chain (channels_at b t) channels (AreChannels b t) (λ cs bytes. Ok ((f, entry_with a k x ps cs), bytes)) _ (λ (p : FiveTuple × Entry). p.1.channels) (λ p. ((((Unit {0} × (p.0 ≡ f)) × (plain_of p.1 ≡ a)) × (p.1.token ≡ k)) × (p.1.expiry ≡ x)) × (p.1.permissions ≡ ps)) _ (codec_channels b range t (λ under. omega (arith, room under)))
    (λ cs. made ((f, entry_with a k x ps cs)) (λ p. (((((Unit {0} × (p.0 ≡ f)) × (plain_of p.1 ≡ a)) × (p.1.token ≡ k)) × (p.1.expiry ≡ x)) × (p.1.permissions ≡ ps)) × (p.1.channels ≡ cs)) ((((((tt, refl), λ i. record { user = a.user; port = a.port; granted = a.granted; tx = a.tx; token = sym no_token i }), refl), refl), refl), refl) (λ p q. rw (← q.0.0.0.0.0.1, ← q.0.0.0.0.1, ← q.0.0.0.1, ← q.0.0.1, ← q.0.1, ← q.1) refl))))))))
    (λ p. refl)
    (λ p h.
    let token = mark_after v p.1.port p.1.token h.1.1.1.0 in
    (h.1.0.1, (not_is _ h.1.1.0.free, (is_entry b t (is_free_after before) p.0 p.1 h.1.0.0 h.1.1.0 token.1 h.1.1.1.1.0 h.1.1.1.1.1.0 h.1.1.1.1.1.1.0, token.0))))
    (λ p h.
    let one = h.1.1.0 in
    let made = one.values.made in
    (tt, ((one.tuple, h.0), (fits_allocation b (is_free_after before) p.1.user p.1.port p.1.granted p.1.tx p.1.token made (not_from _ h.1.0), (holds_mark v p.1.port p.1.token made.1 h.1.1.1 made.4, (one.values.expiry, (its_permissions b t p.0 p.1 one, (its_channels b t p.0 p.1 one, tt)))))))))
    (omega (arith, mark_room v))

-- what is read so
pub entry_read : (v : Version) (b : Bounds) → AreInRange b → (t : ℕ) → t < end_of_moments → (before : List (FiveTuple × Entry)) (bytes : List ℕ) → IsBytes bytes → (p : FiveTuple × Entry) (rest : List ℕ) → entry_at v b t before bytes ≡ Ok (p, rest) → IsEntryAt b t p.0 p.1
entry_read v b range t moment before bytes all p rest e = (((codec_entry {U = Unit {0}} v b (λ under. range) t (λ under. omega (arith, moment)) before).reads tt).takes bytes p rest all e).fits.1.1.0

pub same_ports : (p q : FiveTuple × Entry) → same_port p q ≡ same_port q p
same_ports p q = alike _ _ (λ e. eq-eqb p.1.port q.1.port (sym (eqb-true q.1.port p.1.port e))) (λ e. eq-eqb q.1.port p.1.port (sym (eqb-true p.1.port q.1.port e)))

pub tuples_rise : (v : Version) (b : Bounds) (t : ℕ) (es : List (FiveTuple × Entry)) → EachAfter (FitsEntry v b t) [] es → T (fin.is_sorted tuple_cmp es)
tuples_rise v b t es h = sorted_rising tuple_cmp tuple_total es (each_more _ _ (λ before p fits. fits.0) [] es h)

-- ---- Counts

pub codec_total : {U : Type 0} (b : Bounds) → (U → AreInRange b) → Codec U (total_at b) (to_be_bytes w32) (λ n. n ≤ b.allocations) 4
unfolding total_at
codec_total b range =
    in_words_under _ _ _ _ _ (codec_judged (number_at w32) (to_be_bytes w32) (λ n. n < 2 ^ 32) (λ n. leb n b.allocations) BadValue refl codec32)
    (λ n. refl) (λ n h. leb-true _ _ h.1) (λ under n h. (omega (arith, h, (range under).allocations.1), le-leb _ _ h))

pub total_passes : (b : Bounds) → Passes (total_at b) (λ n. n ≤ b.allocations)
unfolding total_at
total_passes b bytes n rest e = leb-true _ _ (good_passes (number_at w32) (λ n. leb n b.allocations) BadValue bytes n rest e)

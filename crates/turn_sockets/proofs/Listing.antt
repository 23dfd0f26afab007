-- Which sockets are listed, by a flag for each token.
use Rattle.std.proofs.Common.{arith, ◌≡◌, ◌≢◌, ℕ, ◌+◌, ◌<◌, Bool, true, false, cond, if◌then◌else◌, not, ◌&&◌, ◌||◌, nat_eq, nat_lt, List, [], ◌∷◌, ◌++◌, length, get_or, set, replicate, count_by, refl, sym, ap, ◌∙◌, subst, ⊎_elim}
use Rattle.std.specs.List.{list_any}
use Rattle.std.proofs.lemmas.Bool.{and_from, cases_lt, eq-eqb, lt-ltb, true≢false}
use Rattle.std.proofs.lemmas.Bool.Decides.{eqb_tells}
use Rattle.std.proofs.lemmas.Grind.{get_or-set_at}
use Rattle.std.proofs.lemmas.List.{get_or-replicate, get_or-set_other, get_or-set_same, get_or_past, length-replicate, length-set}
use Rattle.std.proofs.lemmas.List.Sums.{sum_by-append}
use Rattle.turn_sockets.specs.Schedule.{Agenda, AreFlags, can_list, is_relay, number_of, with_more, with_ready}

-- how often a token is on a list
abbrev pub count : ℕ → List ℕ → ℕ
count token xs = count_by (nat_eq token) xs

module _ (token : ℕ) where
  counted_first : (x : ℕ) (xs : List ℕ) → count token (x ∷ xs) ≡ cond (nat_eq token x) 1 0 + count token xs
  counted_first x xs = omega (arith, sum_by-append (λ y. cond (nat_eq token y) 1 0) (x ∷ []) xs)

  -- a list has a token exactly if that is counted on it
  has_at : (b any : Bool) (n m : ℕ) → m ≡ cond b 1 0 + n → any ≡ nat_lt 0 n → (b || any) ≡ nat_lt 0 m
  has_at true any n m more is = sym (lt-ltb 0 m (omega arith))
  has_at false any n m more is = let same : m ≡ n = omega arith in is ∙ sym (ap (nat_lt 0) same)

  pub has_counted : (xs : List ℕ) → list_any (nat_eq token) xs ≡ nat_lt 0 (count token xs)
  has_counted [] = refl
  has_counted (x ∷ xs) = has_at (nat_eq token x) (list_any (nat_eq token) xs) (count token xs) (count token (x ∷ xs)) (counted_first x xs) (has_counted xs)

positive : (b : Bool) (n : ℕ) → n ≡ number_of b → nat_lt 0 n ≡ b
positive true n is = ap (nat_lt 0) is
positive false n is = ap (nat_lt 0) is

-- a socket is listed exactly if its flag says so
pub flag_is : {flags : List Bool} {fresh clients peers : List ℕ} → AreFlags flags fresh clients peers → (token : ℕ) → list_any (nat_eq token) (fresh ++ (clients ++ peers)) ≡ get_or flags token false
flag_is {flags = flags} {fresh = fresh} {clients = clients} {peers = peers} are token =
    let p = λ (y : ℕ). cond (nat_eq token y) 1 0 in
    let whole : count token (fresh ++ (clients ++ peers)) ≡ number_of (get_or flags token false) =
    sum_by-append p fresh (clients ++ peers) ∙ ap (λ n. count token fresh + n) (sum_by-append p clients peers) ∙ are.each token in
    has_counted token (fresh ++ (clients ++ peers)) ∙ positive (get_or flags token false) _ whole

-- a test of the flags says whether a socket can be listed
pub can_list_is : {flags seen : List Bool} {fresh clients peers : List ℕ} (token : ℕ) (tested is : Bool) → AreFlags flags fresh clients peers → seen ≡ flags
    → tested ≡ (nat_lt token (length seen) && not (get_or seen token false)) → tested ≡ is
    → (nat_lt token 65600 && not (list_any (nat_eq token) (fresh ++ (clients ++ peers)))) ≡ is
can_list_is token tested is are same test was =
    (λ i. nat_lt token (sym are.size i) && not (flag_is are token i)) ∙ (λ i. nat_lt token (length (sym same i)) && not (get_or (sym same i) token false)) ∙ sym test ∙ was

-- ---- What comes of a socket that became ready, or has more

module _ (a : Agenda) (token : ℕ) where
  pub ready_at : (can : Bool) → can_list a token ≡ can → with_ready a token ≡ (if can then record a { fresh = a.fresh ++ token ∷ [] } else a)
  ready_at can can_is = (λ i. if can_is i then record a { fresh = a.fresh ++ token ∷ [] } else a)

  pub more_at : (can relay : Bool) → can_list a token ≡ can → is_relay token ≡ relay
      → with_more a token ≡ (if can then (if relay then record a { peers = a.peers ++ token ∷ [] } else record a { clients = a.clients ++ token ∷ [] }) else a)
  more_at can relay can_is relay_is = (λ i. if can_is i then (if relay_is i then record a { peers = a.peers ++ token ∷ [] } else record a { clients = a.clients ++ token ∷ [] }) else a)

-- ---- No socket

unlisted : (n token : ℕ) → get_or (replicate n false) token false ≡ false
unlisted n token = ⊎_elim (λ within. get_or-replicate n token false false within) (λ past. get_or_past (replicate n false) token false (omega (arith, length-replicate n false))) (cases_lt token n)

pub no_flags : (flags : List Bool) → flags ≡ replicate 65600 false → AreFlags flags [] [] []
no_flags flags is = record {
  size = ap length is ∙ length-replicate 65600 false;
  each = λ token. sym (ap number_of (ap (λ l. get_or l token false) is ∙ unlisted 65600 token));
}

-- ---- A socket that is taken from its list

-- a flag by token says of each socket whether it is listed, but for this one, whose flag still does
pub record AreFlagsBut (taken : ℕ) (flags : List Bool) (fresh clients peers : List ℕ) : Type 0 where
  pub size : length flags ≡ 65600
  pub each : (token : ℕ) → cond (nat_eq token taken) 1 0 + (count token fresh + (count token clients + count token peers)) ≡ number_of (get_or flags token false)

flagged : (b : Bool) (n : ℕ) → 1 + n ≡ number_of b → (b ≡ true) × (n ≡ 0)
flagged true n is = (refl, omega arith)
flagged false n is = absurd (omega arith)

module _ {flags : List Bool} {fresh clients peers : List ℕ} where
  taken_but : (taken : ℕ) {f c p : List ℕ} → AreFlags flags fresh clients peers
      → ((token : ℕ) → cond (nat_eq token taken) 1 0 + (count token f + (count token c + count token p)) ≡ count token fresh + (count token clients + count token peers))
      → AreFlagsBut taken flags f c p
  taken_but taken are one = record { size = are.size; each = λ token. one token ∙ are.each token }

  pub taken_fresh : (taken : ℕ) (rest : List ℕ) → AreFlags flags fresh clients peers → fresh ≡ taken ∷ rest → AreFlagsBut taken flags rest clients peers
  taken_fresh taken rest are is = taken_but taken are (λ token. let same = ap (count token) is in omega (arith, counted_first token taken rest))

  pub taken_clients : (taken : ℕ) (rest : List ℕ) → AreFlags flags fresh clients peers → clients ≡ taken ∷ rest → AreFlagsBut taken flags fresh rest peers
  taken_clients taken rest are is = taken_but taken are (λ token. let same = ap (count token) is in omega (arith, counted_first token taken rest))

  pub taken_peers : (taken : ℕ) (rest : List ℕ) → AreFlags flags fresh clients peers → peers ≡ taken ∷ rest → AreFlagsBut taken flags fresh clients rest
  taken_peers taken rest are is = taken_but taken are (λ token. let same = ap (count token) is in omega (arith, counted_first token taken rest))

  -- it has a flag, which is set
  pub has_flag : (taken : ℕ) → AreFlagsBut taken flags fresh clients peers → taken < length flags
  has_flag taken but =
      let is : 1 + (count taken fresh + (count taken clients + count taken peers)) ≡ number_of (get_or flags taken false) =
      sym (ap (λ b. cond b 1 0 + (count taken fresh + (count taken clients + count taken peers))) (eq-eqb taken taken refl)) ∙ but.each taken in
      let set = (flagged (get_or flags taken false) _ is).0 in
      ⊎_elim (λ within. within) (λ past. absurd (true≢false (sym set ∙ get_or_past flags taken false past))) (cases_lt taken (length flags))

  -- once that is cleared, the flags are those of what is listed
  pub cleared : (taken : ℕ) → AreFlagsBut taken flags fresh clients peers → AreFlags (set flags taken false) fresh clients peers
  cleared taken but = record {
    size = length-set flags taken false ∙ but.size;
    each = λ token. ⊎_elim (λ same. at_it token same.1 (but.each token) same.0) (λ other. elsewhere token other.1 (but.each token) other.0) (eqb_tells token taken);
  }
    where
      at_it : (token : ℕ) → token ≡ taken → cond (nat_eq token taken) 1 0 + (count token fresh + (count token clients + count token peers)) ≡ number_of (get_or flags token false)
          → nat_eq token taken ≡ true → count token fresh + (count token clients + count token peers) ≡ number_of (get_or (set flags taken false) token false)
      at_it token same is test =
          let one : 1 + (count token fresh + (count token clients + count token peers)) ≡ number_of (get_or flags token false) =
          sym (ap (λ b. cond b 1 0 + (count token fresh + (count token clients + count token peers))) test) ∙ is in
          let was = flagged (get_or flags token false) _ one in
          was.1 ∙ sym (ap number_of (get_or-set_at flags taken token false false same (has_flag taken but)))

      elsewhere : (token : ℕ) → token ≢ taken → cond (nat_eq token taken) 1 0 + (count token fresh + (count token clients + count token peers)) ≡ number_of (get_or flags token false)
          → nat_eq token taken ≡ false → count token fresh + (count token clients + count token peers) ≡ number_of (get_or (set flags taken false) token false)
      elsewhere token other is test =
          let none : 0 + (count token fresh + (count token clients + count token peers)) ≡ number_of (get_or flags token false) =
          sym (ap (λ b. cond b 1 0 + (count token fresh + (count token clients + count token peers))) test) ∙ is in
          let unchanged = ap number_of (get_or-set_other flags taken token false false other) in
          omega arith

  -- and it can be listed again
  pub can_be_listed : (taken : ℕ) → AreFlagsBut taken flags fresh clients peers → (nat_lt taken 65600 && not (list_any (nat_eq taken) (fresh ++ (clients ++ peers)))) ≡ true
  can_be_listed taken but =
      let unset = flag_is (cleared taken but) taken ∙ get_or-set_same flags taken false false (has_flag taken but) in
      let within = has_flag taken but in
      and_from (nat_lt taken 65600) (not (list_any (nat_eq taken) (fresh ++ (clients ++ peers)))) (lt-ltb taken 65600 (subst (λ n. taken < n) but.size within)) (ap not unset)

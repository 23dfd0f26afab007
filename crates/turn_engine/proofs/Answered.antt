-- Arrivals that were answered, one after another.
use Rattle.std.proofs.Common.{◌≡◌, ◌≤◌, ◌-◌, ℕ, zero, suc, List, [], ◌∷◌, ◌++◌, length, take, refl, sym, ap, ◌∙◌, subst, arith, append_assoc, append-nil, option_to_list}
use Rattle.turn_history.specs.Prelude.{History}
use Rattle.turn_step.specs.Prelude.{Setting, Sent, added}
use Rattle.turn_store.specs.Prelude.{Form, RepresentsBy}
use Rattle.turn_engine.specs.Prelude.{AtLeast, BeginsWith, IsAnswered, IsRun, Taken, accepted, last_moment, sent_about}

pub accepted-append : (xs ys : List Taken) → accepted (xs ++ ys) ≡ accepted xs ++ accepted ys
accepted-append [] ys = refl
accepted-append (x ∷ xs) ys =
    ap (λ (l : History). added x.moment x.outcome.change ++ l) (accepted-append xs ys) ∙ sym (append_assoc (added x.moment x.outcome.change) (accepted xs) (accepted ys))

pub sent_about-append : (xs ys : List Taken) → sent_about (xs ++ ys) ≡ sent_about xs ++ sent_about ys
sent_about-append [] ys = refl
sent_about-append (x ∷ xs) ys =
    ap (λ (l : List Sent). option_to_list x.outcome.sent ++ l) (sent_about-append xs ys) ∙ sym (append_assoc (option_to_list x.outcome.sent) (sent_about xs) (sent_about ys))

pub last_moment-push : (t : ℕ) (xs : List Taken) (x : Taken) → last_moment t (xs ++ x ∷ []) ≡ x.moment
last_moment-push t [] x = refl
last_moment-push t (y ∷ ys) x = last_moment-push y.moment ys x

pub run-push : (s : Setting) (h : History) (t : ℕ) (xs : List Taken) (x : Taken) → IsRun s h t xs → last_moment t xs ≤ x.moment
    → IsAnswered s (h ++ accepted xs) x → IsRun s h t (xs ++ x ∷ [])
run-push s h t [] x run late answers = (late, subst (λ (l : History). IsAnswered s l x) (append-nil h) answers, tt)
run-push s h t (y ∷ ys) x run late answers = (
  run.0,
  run.1,
  run-push s (h ++ added y.moment y.outcome.change) y.moment ys x run.2 late
      (subst (λ (l : History). IsAnswered s l x) (sym (append_assoc h (added y.moment y.outcome.change) (accepted ys))) answers),
)

pub answered_at : (s : Setting) (h : History) (t : ℕ) (before : List Taken) (x : Taken) (after : List Taken) → IsRun s h t (before ++ x ∷ after)
    → IsAnswered s (h ++ accepted before) x
answered_at s h t [] x after run = subst (λ (l : History). IsAnswered s l x) (sym (append-nil h)) run.1
answered_at s h t (y ∷ ys) x after run =
    subst (λ (l : History). IsAnswered s l x) (append_assoc h (added y.moment y.outcome.change) (accepted ys))
    (answered_at s (h ++ added y.moment y.outcome.change) y.moment ys x after run.2)

-- the history with one more arrival
pub history-push : (h : History) (xs ys : List Taken) (x : Taken) → h ++ accepted (xs ++ (ys ++ x ∷ [])) ≡ (h ++ accepted (xs ++ ys)) ++ added x.moment x.outcome.change
history-push h xs ys x =
    let more = added x.moment x.outcome.change in
    let one : accepted (xs ++ (ys ++ x ∷ [])) ≡ accepted (xs ++ ys) ++ more =
    ap accepted (sym (append_assoc xs ys (x ∷ []))) ∙ accepted-append (xs ++ ys) (x ∷ []) ∙ ap (λ (l : History). accepted (xs ++ ys) ++ l) (append-nil more) in
    ap (λ (l : History). h ++ l) one ∙ sym (append_assoc h (accepted (xs ++ ys)) more)

-- the history, cut after an arrival
pub history-cut : (h : History) (before : List Taken) (x : Taken) (after : List Taken)
    → h ++ accepted (before ++ x ∷ after) ≡ ((h ++ accepted before) ++ added x.moment x.outcome.change) ++ accepted after
history-cut h before x after =
    let more = added x.moment x.outcome.change in
    ap (λ (l : History). h ++ l) (accepted-append before (x ∷ after)) ∙ sym (append_assoc h (accepted before) (more ++ accepted after))
    ∙ sym (append_assoc (h ++ accepted before) more (accepted after))

take_past : {A : Type 0} (xs ys : List A) (n : ℕ) → length xs ≤ n → take n (xs ++ ys) ≡ xs ++ take (n - length xs) ys
take_past [] ys n le = let is : n ≡ n - 0 = omega arith in ap (λ (k : ℕ). take k ys) is
take_past (x ∷ xs) ys zero le = absurd (omega (arith, le))
take_past (x ∷ xs) ys (suc n) le =
    let is : n - length xs ≡ suc n - suc (length xs) = omega arith in
    let less : length xs ≤ n = omega (arith, le) in
    ap (λ (l : List _). x ∷ l) (take_past xs ys n less ∙ ap (λ (k : ℕ). xs ++ take k ys) is)

-- what has at least the first part of a history begins with it
pub begins : (form : Form) (h first rest : History) (k m : ℕ) (image : List ℕ) → h ≡ first ++ rest → length first ≤ k → AtLeast form h k m image → BeginsWith form first m image
begins form h first rest k m image is le at =
    let no_less = at.no_less in
    let long : length first ≤ at.count = omega arith in
    let taken : take at.count h ≡ first ++ take (at.count - length first) rest = ap (λ (l : History). take at.count l) is ∙ take_past first rest at.count long in
    record {
      rest = take (at.count - length first) rest;
      stands = subst (λ (l : History). RepresentsBy form l m image) taken at.stands;
    }

-- what has at least the first part of a history at a clock has it at a later one
pub weaken_by : (form : Form) (h : History) (k m n : ℕ) (image : List ℕ) → m ≤ n → AtLeast form h k m image → AtLeast form h k n image
weaken_by form h k m n image le at =
    record {
      count = at.count;
      no_less = at.no_less;
      no_more = at.no_more;
      stands = record { clock = at.stands.clock; bounded = omega (arith, at.stands.bounded); stands = at.stands.stands };
    }

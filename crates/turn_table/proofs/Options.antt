-- Options that hold a value and those that don't, and tests.
use Rattle.std.proofs.Common.{◌≡◌, refl, ap, subst, is_some, Bool, true, false, cond, Option, Some, None, option_map, IsSome, IsSomeAnd, MatchOption}

module _ {X : Type 0} where
  -- what follows from the value that an option holds
  pub some_then : {G : Type 0} (P : X → Type 0) (o : Option X) → IsSomeAnd o P → ((x : X) → o ≡ Some x → P x → G) → G
  some_then P None some then = absurd some
  some_then P (Some x) some then = then x refl some

  pub mapped_then : {Y G : Type 0} (g : X → Y) (o : Option X) (y : Y) → option_map g o ≡ Some y → ((x : X) → o ≡ Some x → g x ≡ y → G) → G
  mapped_then g None y is then = cc
  mapped_then g (Some x) y is then = then x refl cc

  pub match_none : (P : Type 0) (Q : X → Type 0) (o : Option X) → o ≡ None → P → MatchOption o P Q
  match_none P Q None is p = p
  match_none P Q (Some x) is p = cc

  pub mapped_cond : {Y : Type 0} (g : X → Y) (b : Bool) (x y : Option X) → option_map g (cond b x y) ≡ cond b (option_map g x) (option_map g y)
  mapped_cond g true x y = refl
  mapped_cond g false x y = refl

  pub mapped_twice : {Y Z : Type 0} (f : Y → Z) (g : X → Y) (o : Option X) → option_map f (option_map g o) ≡ option_map (λ x. f (g x)) o
  mapped_twice f g None = refl
  mapped_twice f g (Some x) = refl

  pub none_of : (o : Option X) → ((x : X) → o ≡ Some x → ⊥) → o ≡ None
  none_of None not_some = refl
  none_of (Some x) not_some = absurd (not_some x refl)

  pub some_none : {x : X} {o : Option X} → o ≡ Some x → o ≡ None → ⊥
  some_none is none = cc

  pub is_some_then : {G : Type 0} (o : Option X) → IsSome o → ((x : X) → o ≡ Some x → G) → G
  is_some_then None some then = cc
  is_some_then (Some x) some then = then x refl

  pub some_at : (P : X → Type 0) (o : Option X) (x : X) → IsSomeAnd o P → o ≡ Some x → P x
  some_at P o x some is = subst (λ v. IsSomeAnd v P) is some

  pub some_is : (P : X → Type 0) (o : Option X) → IsSomeAnd o P → IsSome o
  some_is P o some = some_then P o some (λ x at p. ap is_some at)

  pub is_some_none : {o : Option X} → IsSome o → o ≡ None → ⊥
  is_some_none some none = cc

  -- what a map answers, if a value or nothing came in at a key
  pub or_new : (P : X → Type 0) (b : Bool) (new old : Option X) (x : X) → cond b new old ≡ Some x → (b ≡ true → new ≡ Some x → P x) → (b ≡ false → old ≡ Some x → P x) → P x
  or_new P true new old x is at_new at_old = at_new refl is
  or_new P false new old x is at_new at_old = at_old refl is

pub is_false : (b : Bool) → (b ≡ true → ⊥) → b ≡ false
is_false true not_true = absurd (not_true refl)
is_false false not_true = refl

pub is_true : (b : Bool) → (b ≡ false → ⊥) → b ≡ true
is_true true not_false = refl
is_true false not_false = absurd (not_false refl)

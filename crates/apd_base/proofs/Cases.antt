-- Facts on truth values and options that several proofs need.
use Rattle.std.proofs.Common.{◌≡◌, Bool, true, false, cond, not, ◌&&◌, ◌||◌, Option, Some, None, refl, IsSome, T}
use Rattle.std.specs.Option.{is_some}
use Rattle.std.specs.Ordering.{is_lt}
use Rattle.std.specs.declared.cmp.Ordering.{Ordering}
use Rattle.std.specs.declared.cmp.Ordering.TheVariants.{Less, Equal, Greater}

-- a test that fails doesn't hold
pub differ : {A : Type 0} (t : Bool) → t ≡ false → t ≡ true → A
differ t f h = cc

pub not_yes : (t : Bool) → not t ≡ true → t ≡ false
not_yes true e = cc
not_yes false e = refl

pub not_no : (t : Bool) → t ≡ false → not t ≡ true
not_no true e = cc
not_no false e = refl

pub not_false : (t : Bool) → not t ≡ false → t ≡ true
not_false true e = refl
not_false false e = cc

pub second_true : (t u : Bool) → u ≡ true → (t || u) ≡ true
second_true true u e = refl
second_true false u e = e

pub both_true : (t u : Bool) → t ≡ true → u ≡ true → (t && u) ≡ true
both_true true u e f = f
both_true false u e f = cc

pub first_false : (t u : Bool) → t ≡ false → (t && u) ≡ false
first_false true u e = cc
first_false false u e = refl

pub second_false : (t u : Bool) → u ≡ false → (t && u) ≡ false
second_false true u e = e
second_false false u e = refl

-- the same of tests as types
pub first_holds : (t u : Bool) → T (t && u) → T t
first_holds true u p = tt
first_holds false u p = p

pub second_holds : (t u : Bool) → T (t && u) → T u
second_holds true u p = p
second_holds false u p = absurd p

pub both_hold : (t u : Bool) → T t → T u → T (t && u)
both_hold true u p q = q
both_hold false u p q = p

pub is_less : (r : Ordering) → T (is_lt r) → r ≡ Less
is_less Less p = refl
is_less Equal p = absurd p
is_less Greater p = absurd p

pub either : {A : Type 0} (t : Bool) (x : A) → cond t x x ≡ x
either true x = refl
either false x = refl

-- what is none has no value
pub none_is : {A B : Type 0} (o : Option A) → o ≡ None → IsSome o → B
none_is None e h = cc
none_is (Some x) e h = cc

pub none_is_some : {A B : Type 0} (x : A) → None ≡ Some x → B
none_is_some x e = cc

pub no_value : {A : Type 0} (o : Option A) → is_some o ≡ false → o ≡ None
no_value None e = refl
no_value (Some x) e = cc

pub value_of : {A : Type 0} (o : Option A) → IsSome o → (x : A) × (o ≡ Some x)
value_of None h = cc
value_of (Some x) h = (x, refl)

pub is_some_of : {A : Type 0} (o : Option A) (x : A) → o ≡ Some x → IsSome o
is_some_of None x e = cc
is_some_of (Some y) x e = refl

pub same_some : {A : Type 0} (x y : A) → Some x ≡ Some y → x ≡ y
same_some x y e = cc

-- Steps of a reader: what a step that found something says, and a step that finds what it is told.
use Rattle.std.proofs.Common.{◌≡◌, Bool, true, false, cond, Option, Some, None, refl}
use Rattle.std.proofs.lemmas.Option.{cond_some}
use Rattle.lsn_core.specs.byte_words.Numbers.{◌>>=◌}
use Rattle.lsn_core.proofs.byte_words.Fields.{bind_some}

-- a test at the end of a reading
pub passed : {A : Type 0} (b : Bool) (x y : A) (P : Type 0) → cond b (Some x) None ≡ Some y → (b ≡ true → x ≡ y → P) → P
passed b x y P e go = let g = cond_some b x y e in go g.0 g.1

-- a choice between two readings
pub either : {A : Type 0} (b : Bool) (o p : Option A) (y : A) (P : Type 0) → cond b o p ≡ Some y → (b ≡ true → o ≡ Some y → P) → (b ≡ false → p ≡ Some y → P) → P
either true o p y P e first second = first refl e
either false o p y P e first second = second refl e

-- a step of a reading that is no number
pub took : {A B : Type 0} (o : Option A) (f : A → Option B) (y : B) (P : Type 0) → (o >>= f) ≡ Some y → ((x : A) → o ≡ Some x → f x ≡ Some y → P) → P
took o f y P e go = let g = bind_some o f y e in go g.0 g.1 g.2

-- a test that passes, and one that doesn't
pub passes : {A : Type 0} (b : Bool) (x y z : A) → b ≡ true → x ≡ z → cond b x y ≡ z
passes b x y z e go = rw e go

pub passes_over : {A : Type 0} (b : Bool) (x y z : A) → b ≡ false → y ≡ z → cond b x y ≡ z
passes_over b x y z e go = rw e go

-- a step that is no number, where what it finds is known
pub takes_again : {A B : Type 0} (o : Option A) (f : A → Option B) (x : A) (y : Option B) → o ≡ Some x → f x ≡ y → (o >>= f) ≡ y
takes_again o f x y e go = rw e go

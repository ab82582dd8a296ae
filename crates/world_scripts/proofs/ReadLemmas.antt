-- What can be said of a reading that gave a value.
use Rattle.std.proofs.Common.{◌≡◌, Bool, true, false, cond, Option, Some, None, option_map, refl}
use Rattle.world_scripts.specs.Reading.{◌>>=◌}

pub bind_parts : {A B : Type 0} (o : Option A) (f : A → Option B) (y : B) → (o >>= f) ≡ Some y → (x : A) × (o ≡ Some x) × (f x ≡ Some y)
bind_parts (Some x) f y h = (x, refl, h)
bind_parts None f y h = absurd cc

pub map_parts : {A B : Type 0} (f : A → B) (o : Option A) (y : B) → option_map f o ≡ Some y → (x : A) × (o ≡ Some x) × (f x ≡ y)
map_parts f (Some x) y h = (x, refl, cc)
map_parts f None y h = absurd cc

pub if_parts : {A : Type 0} (t : Bool) (x y : A) → cond t (Some x) None ≡ Some y → (t ≡ true) × (x ≡ y)
if_parts true x y h = (refl, cc)
if_parts false x y h = absurd cc

pub unless_parts : {A : Type 0} (t : Bool) (o : Option A) (y : A) → cond t None o ≡ Some y → (t ≡ false) × (o ≡ Some y)
unless_parts true o y h = absurd cc
unless_parts false o y h = (refl, h)

pub some_parts : {A : Type 0} (x y : A) → Some x ≡ Some y → x ≡ y
some_parts x y h = cc

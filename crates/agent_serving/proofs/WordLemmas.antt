-- What one option says of all: it isn't given twice, and the others are options.
use Rattle.std.proofs.Common.{◌≡◌, Bool, true, false, not, ◌&&◌, refl}

pub twice : (name value again others : Bool) → name ≡ true → value ≡ true → again ≡ true → (name && (value && (not again && others))) ≡ false
twice name value again others n v a = rw (n, v, a) refl

pub once : (name value again others : Bool) → name ≡ true → value ≡ true → again ≡ false → (name && (value && (not again && others))) ≡ others
once name value again others n v a = rw (n, v, a) refl

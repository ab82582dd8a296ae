-- What a decoder answers of a frame that is read as Decoding says.
use Rattle.std.specs.Prelude.{◌≡◌, ◌==◌, ◌||◌, ℕ, Bool, true, List, Result, Ok, Err, Some}
use Rattle.std.specs.Int.{w8}
use Rattle.wire_base.specs.Readers.{number, value_of}
use Rattle.nine.specs.declared.fault.DecodeFault.{DecodeFault}
use Rattle.nine.specs.declared.fault.DecodeFault.TheVariants.{Bad, NoMemory}

-- the message that is read, or its first fault, unless memory ran out
abbrev pub Decodes : {M : Type 0} → Result M DecodeFault → Result M ℕ → Type 0
Decodes (Ok m) reading = reading ≡ Ok m
Decodes (Err (Bad at)) reading = reading ≡ Err at
Decodes (Err NoMemory) reading = Unit {0}

-- whether a request, or a reply, of this type has a text, bytes or a list, for which its decoder takes memory
abbrev pub t_takes_memory : ℕ → Bool
t_takes_memory kind = kind == 100 || kind == 102 || kind == 104 || kind == 110 || kind == 114 || kind == 118
    || kind == 126

abbrev pub r_takes_memory : ℕ → Bool
r_takes_memory kind = kind == 101 || kind == 107 || kind == 111 || kind == 117 || kind == 125

-- the frame's type byte is one of these
pub record HasType (test : ℕ → Bool) (frame : List ℕ) : Type 0 where
  pub kind : ℕ
  pub stands : value_of (number w8 frame 4) ≡ Some kind
  pub tested : test kind ≡ true

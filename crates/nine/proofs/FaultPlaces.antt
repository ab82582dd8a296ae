-- The first fault of a frame lies within it.
use Rattle.std.proofs.Common.{◌≡◌, ℕ, ◌^◌, ◌<◌, ◌≤◌, List, length, Bool, true, false, cond, eqb, ltb, Result, Ok, Err, arith, inl, inr}
use Rattle.std.proofs.lemmas.Bool.{cases_Bool}
use Rattle.std.specs.Int.{w8, w16, w32, w64}
use Rattle.wire_base.specs.Readers.{Reader, ◌>>=◌, number, string, both}
use Rattle.wire_base.proofs.ReaderLaws.{AreBytes, number_spells, wide32}
use Rattle.wire_base.proofs.PlaceLaws.{Inside, Within, number_within, block_within, string_within, listed_within, both_within, converted_within}
use Rattle.nine.specs.Decoding.{as_one, qid_parts_at, qid_at, version_at, auth_at, attach_at, flush_at, walk_at, open_at, create_at, read_at, write_at, clunk_at, remove_at, stat_at, wstat_at, version_reply_at, auth_reply_at, attach_reply_at, error_reply_at, walk_reply_at, open_reply_at, create_reply_at, read_reply_at, write_reply_at, stat_reply_at, bare_reply_at, t_body_at, t_reading, r_body_at, r_reading, IsFrame}

n32 : Within (number w32)
n32 = number_within w32

pairs : Within (both (number w32) (number w32))
pairs = both_within _ _ n32 n32

offsets : Within (both (number w32) (number w64))
offsets = both_within _ _ n32 (number_within w64)

-- the fields of a message, from 7 on
FaultsWithin : {B : Type 0} → Reader B → Type 0
FaultsWithin read = (bytes : List ℕ) → 7 ≤ length bytes → Inside bytes (read bytes 7)

chosen : {B : Type 0} (kind k : ℕ) (one other : Reader B) → FaultsWithin one → FaultsWithin other → FaultsWithin (cond (eqb kind k) one other)
unfolding FaultsWithin
chosen kind k one other p q bytes le = elim (cases_Bool (eqb kind k)) [
  | inl is ↦ rw is (p bytes le)
  | inr not ↦ rw not (q bytes le)
]

one_inside : {A : Type 0} (bytes : List ℕ) (at : ℕ) (r : Result (A × ℕ) ℕ) → at ≤ length bytes → Inside bytes r → Inside bytes (elim r [ Ok x ↦ Ok x | Err fault ↦ Err at ])
one_inside bytes at (Ok x) le h = h
one_inside bytes at (Err fault) le h = le

one_within : {A : Type 0} (read : Reader A) → Within read → Within (as_one read)
one_within read w bytes at le = one_inside bytes at (read bytes at) le (w bytes at le)

qid_within : Within qid_at
unfolding qid_at
qid_within = one_within qid_parts_at (converted_within _ _ (both_within _ _ (both_within _ _ (number_within w8) n32) (number_within w64)))

-- where a reading ends in a fault, it is within the bytes
FaultInside : {A : Type 0} → List ℕ → Result A ℕ → Type 0
FaultInside bytes (Ok x) = Unit {0}
FaultInside bytes (Err fault) = fault ≤ length bytes

bind_fault : {A B : Type 0} (bytes : List ℕ) (r : Result (A × ℕ) ℕ) (f : A × ℕ → Result B ℕ) → Inside bytes r → ((x : A × ℕ) → x.1 ≤ length bytes → FaultInside bytes (f x)) → FaultInside bytes (r >>= f)
unfolding FaultInside
bind_fault bytes (Ok x) f h k = k x h
bind_fault bytes (Err fault) f h k = h

cond_fault : {A : Type 0} (bytes : List ℕ) (b : Bool) (at : ℕ) (x : A) → at ≤ length bytes → FaultInside bytes (cond b (Err at) (Ok x))
unfolding FaultInside
cond_fault bytes true at x le = le
cond_fault bytes false at x le = tt

t_within : (kind : ℕ) → FaultsWithin (t_body_at kind)
unfolding FaultsWithin t_body_at version_at auth_at attach_at flush_at walk_at open_at create_at read_at write_at clunk_at remove_at stat_at wstat_at
t_within kind =
    chosen kind 100 _ _ (λ bytes le. converted_within _ _ (both_within _ _ n32 string_within) bytes 7 le)
    (chosen kind 102 _ _ (λ bytes le. converted_within _ _ (both_within _ _ (both_within _ _ n32 string_within) string_within) bytes 7 le)
    (chosen kind 104 _ _ (λ bytes le. converted_within _ _ (both_within _ _ (both_within _ _ pairs string_within) string_within) bytes 7 le)
    (chosen kind 108 _ _ (λ bytes le. converted_within _ _ (number_within w16) bytes 7 le)
    (chosen kind 110 _ _ (λ bytes le. converted_within _ _ (both_within _ _ pairs (listed_within w16 16 string string_within)) bytes 7 le)
    (chosen kind 112 _ _ (λ bytes le. converted_within _ _ (both_within _ _ n32 (number_within w8)) bytes 7 le)
    (chosen kind 114 _ _ (λ bytes le. converted_within _ _ (both_within _ _ (both_within _ _ (both_within _ _ n32 string_within) n32) (number_within w8)) bytes 7 le)
    (chosen kind 116 _ _ (λ bytes le. converted_within _ _ (both_within _ _ offsets n32) bytes 7 le)
    (chosen kind 118 _ _ (λ bytes le. converted_within _ _ (both_within _ _ offsets (block_within w32)) bytes 7 le)
    (chosen kind 120 _ _ (λ bytes le. converted_within _ _ n32 bytes 7 le)
    (chosen kind 122 _ _ (λ bytes le. converted_within _ _ n32 bytes 7 le)
    (chosen kind 124 _ _ (λ bytes le. converted_within _ _ n32 bytes 7 le)
    (chosen kind 126 _ _ (λ bytes le. converted_within _ _ (both_within _ _ n32 (block_within w16)) bytes 7 le)
    (λ bytes le. omega arith)))))))))))))

t_reading_within : (bytes : List ℕ) → 7 ≤ length bytes → FaultInside bytes (t_reading bytes)
unfolding t_reading FaultsWithin
t_reading_within bytes le =
    bind_fault bytes (number w8 bytes 4) _ (number_within w8 bytes 4 (omega arith)) (λ kind h.
    bind_fault bytes (number w16 bytes 5) _ (number_within w16 bytes 5 (omega arith)) (λ tag k.
    bind_fault bytes (t_body_at kind.0 bytes 7) _ (t_within kind.0 bytes le) (λ body m.
    cond_fault bytes (ltb body.1 (length bytes)) body.1 _ m)))

pub request_fault_within : (bytes : List ℕ) (fault : ℕ) → IsFrame bytes → t_reading bytes ≡ Err fault → fault ≤ length bytes
unfolding FaultInside
request_fault_within bytes fault whole e = let h = t_reading_within bytes whole.header in rw e at h

r_within : (kind : ℕ) → FaultsWithin (r_body_at kind)
unfolding FaultsWithin r_body_at version_reply_at auth_reply_at attach_reply_at error_reply_at walk_reply_at open_reply_at create_reply_at read_reply_at write_reply_at stat_reply_at bare_reply_at
r_within kind =
    chosen kind 101 _ _ (λ bytes le. converted_within _ _ (both_within _ _ n32 string_within) bytes 7 le)
    (chosen kind 103 _ _ (λ bytes le. converted_within _ _ qid_within bytes 7 le)
    (chosen kind 105 _ _ (λ bytes le. converted_within _ _ qid_within bytes 7 le)
    (chosen kind 107 _ _ (λ bytes le. converted_within _ _ string_within bytes 7 le)
    (chosen kind 109 _ _ (λ bytes le. le)
    (chosen kind 111 _ _ (λ bytes le. converted_within _ _ (listed_within w16 16 qid_at qid_within) bytes 7 le)
    (chosen kind 113 _ _ (λ bytes le. converted_within _ _ (both_within _ _ qid_within n32) bytes 7 le)
    (chosen kind 115 _ _ (λ bytes le. converted_within _ _ (both_within _ _ qid_within n32) bytes 7 le)
    (chosen kind 117 _ _ (λ bytes le. converted_within _ _ (block_within w32) bytes 7 le)
    (chosen kind 119 _ _ (λ bytes le. converted_within _ _ n32 bytes 7 le)
    (chosen kind 121 _ _ (λ bytes le. le)
    (chosen kind 123 _ _ (λ bytes le. le)
    (chosen kind 125 _ _ (λ bytes le. converted_within _ _ (block_within w16) bytes 7 le)
    (chosen kind 127 _ _ (λ bytes le. le)
    (λ bytes le. omega arith))))))))))))))

r_reading_within : (bytes : List ℕ) → 7 ≤ length bytes → FaultInside bytes (r_reading bytes)
unfolding r_reading FaultsWithin
r_reading_within bytes le =
    bind_fault bytes (number w8 bytes 4) _ (number_within w8 bytes 4 (omega arith)) (λ kind h.
    bind_fault bytes (number w16 bytes 5) _ (number_within w16 bytes 5 (omega arith)) (λ tag k.
    bind_fault bytes (r_body_at kind.0 bytes 7) _ (r_within kind.0 bytes le) (λ body m.
    cond_fault bytes (ltb body.1 (length bytes)) body.1 _ m)))

pub reply_fault_within : (bytes : List ℕ) (fault : ℕ) → IsFrame bytes → r_reading bytes ≡ Err fault → fault ≤ length bytes
unfolding FaultInside
reply_fault_within bytes fault whole e = let h = r_reading_within bytes whole.header in rw e at h

-- a size field of four bytes
pub frame_small : (bytes : List ℕ) → AreBytes bytes → IsFrame bytes → length bytes < 2 ^ 32
frame_small bytes fits whole = ((number_spells w32 (2 ^ 32) wide32).taken bytes 0 4 (length bytes) fits whole.size).1

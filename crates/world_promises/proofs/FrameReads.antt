-- What the frames of a read and of a write that a network makes are read as, and under which tag.
use Rattle.std.proofs.Common.{◌≡◌, ℕ, suc, ◌+◌, ◌<◌, ◌^◌, List, length, Bool, true, false, cond, ltb, Option, Some, Result, Ok, Err, refl, sym, ap, ◌∙◌, arith}
use Rattle.std.proofs.lemmas.Bool.{ltb-false}
use Rattle.wire_base.specs.Readers.{value_of}
use Rattle.nine.specs.declared.message.TMsg.{TMsg}
use Rattle.nine.specs.declared.message.TBody.{TBody}
use Rattle.nine.specs.declared.message.TBody.TheVariants as t
use Rattle.nine.specs.Messages.{frame, t_fits, t_frame}
use Rattle.nine.proofs.FieldLaws.{n16}
use Rattle.agent_history.specs.Deeds.{Deed, msize_of}
use Rattle.agent_history.specs.Requests.{Call, granted, is_over, tag_in, tag_of}
use Rattle.driven_agents.proofs.ExactLaws.{granted_only}
use Rattle.driven_agents.proofs.GrantLaws.{ok_is}

pub tag_again : (kind tag : ℕ) (fields : List ℕ) → tag < 65536 → tag_of (frame kind tag fields) ≡ tag
unfolding frame
tag_again kind tag fields small = ap (λ r. tag_in (value_of r)) (n16.again (frame kind tag fields) fields 5 tag (omega (arith, small)) refl)

-- the frame of a read of a fid, and of a write
abbrev pub read_msg : ℕ → TMsg
read_msg fid = record { tag = fid; body = t.Read fid 0 8192 }

abbrev pub write_msg : ℕ → List ℕ → TMsg
write_msg fid content = record { tag = 0; body = t.Write fid 0 content }

pub read_fits : (fid : ℕ) → fid < 65536 → t_fits (t.Read fid 0 8192)
read_fits fid small = ((omega (arith, small), omega arith), omega arith)

pub write_fits : (fid : ℕ) (content : List ℕ) → fid < 65536 → length content < 2 ^ 32 → t_fits (t.Write fid 0 content)
write_fits fid content small short = ((omega (arith, small), omega arith), short)

sucs : (n : ℕ) → suc (suc (suc (suc (suc (suc (suc (suc (suc (suc (suc (suc (suc (suc (suc (suc (suc (suc (suc (suc (suc (suc (suc n)))))))))))))))))))))) ≡ 23 + n
sucs n = omega arith

pub write_long : (fid : ℕ) (content : List ℕ) → length (t_frame (write_msg fid content)) ≡ 23 + length content
unfolding frame
write_long fid content = sucs (length content)

-- ---- what is granted

passes_test : (b : Bool) (text : List ℕ) (r : Result TBody (List ℕ)) (body : TBody) → cond b (Err text) r ≡ Ok body → b ≡ false
passes_test true text r body e = absurd cc
passes_test false text r body e = refl

-- a frame that is no longer than was agreed
not_over : (done : List Deed) (call : Call) (bytes : List ℕ) (body : TBody) → granted done call bytes ≡ Ok body → is_over (msize_of done call.conn) bytes ≡ false
unfolding granted
not_over done call bytes body e = passes_test (is_over (msize_of done call.conn) bytes) _ _ body e

-- a read that is granted, and a write
pub read_granted : (done : List Deed) (call : Call) (fid : ℕ) (body : TBody) → fid < 65536 → granted done call (t_frame (read_msg fid)) ≡ Ok body → body ≡ t.Read fid 0 8192
read_granted done call fid body small e =
    let asked = read_msg fid in
    ok_is (λ b. b ≡ asked.body) (granted done call (t_frame asked)) body e (granted_only (λ b. b ≡ asked.body) done call asked (omega (arith, small)) (read_fits fid small) refl)

over_is : (o : Option ℕ) (bytes : List ℕ) → o ≡ Some 8216 → is_over o bytes ≡ false → ltb 8216 (length bytes) ≡ false
over_is o bytes e over = sym (ap (λ x. is_over x bytes) e) ∙ over

pub write_granted : (done : List Deed) (call : Call) (fid : ℕ) (content : List ℕ) (body : TBody) → fid < 65536 → msize_of done call.conn ≡ Some 8216 → granted done call (t_frame (write_msg fid content)) ≡ Ok body → body ≡ t.Write fid 0 content
write_granted done call fid content body small agreed e =
    let asked = write_msg fid content in
    let fits = ltb-false 8216 (length (t_frame asked)) (over_is (msize_of done call.conn) (t_frame asked) agreed (not_over done call (t_frame asked) body e)) in
    let short : length content < 2 ^ 32 = omega (arith, fits, write_long fid content) in
    ok_is (λ b. b ≡ asked.body) (granted done call (t_frame asked)) body e (granted_only (λ b. b ≡ asked.body) done call asked (omega arith) (write_fits fid content small short) refl)

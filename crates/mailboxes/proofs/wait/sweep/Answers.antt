use Rattle.std.proofs.Common.{◌≡◌, ◌<◌, ◌≤◌, ◌++◌, List, ℕ, get_or, length, map, true, false, sym, ap, ◌∙◌, arith, add-one, append_assoc, append-nil}
use Rattle.std.specs.Prelude.{is_some}
use Rattle.std.specs.Option.{option_to_list}
use Rattle.std.proofs.lemmas.List.{length-map}
use Rattle.mailboxes.specs.declared.wait.Wait.{Wait}
use Rattle.mailboxes.specs.Mails.{no_wait}
use Rattle.mailboxes.specs.Kept.{pending_of, reply_bytes}
use Rattle.mailboxes.proofs.WaitLemmas.{swept_from, replies_from, reply_some, waits_kept, replies_kept, waits_dropped, replies_given, swept_all, replies_all}
use Rattle.mailboxes.proofs.wait.sweep.Goals as goal

pub loop-at-preserved-then-is_some : goal.loop-at-preserved-then-is_some
loop-at-preserved-then-is_some c =
    let l = c.loop-at in
    let inside : l.at < length l.waits.items = omega (arith, c.loop-at-test.true, c.len.ensures, l.waits.ok.0) in
    let has : is_some (pending_of c.index.result.now).reply ≡ true = reply_some c.index.result.now ∙ (sym c.is_some.ensures ∙ c.if-is_some.true) in
    let at : is_some (pending_of (get_or l.waits.items l.at c.index.result.now)).reply ≡ true = rw (← c.index.ensures) has in
    let first : List (List ℕ) = map reply_bytes l.replies.items in
    let given : List (List ℕ) = option_to_list (get_or (map pending_of l.waits.items) l.at no_wait).reply in
    let rest : List (List ℕ) = replies_from l.at (map pending_of c.deliver.new.waits.items) in
    let left : given ++ rest ≡ replies_from l.at (map pending_of l.waits.items) =
    ap (λ (ws : List Wait). given ++ replies_from l.at (map pending_of ws)) c.deliver.ensures.waits ∙ replies_given l.waits.items l.at c.index.result.now no_wait inside at in
    record {
      waits = ap (λ (ws : List Wait). swept_from l.at (map pending_of ws)) c.deliver.ensures.waits ∙ (waits_dropped l.waits.items l.at c.index.result.now inside at ∙ l.invariant.waits);
      replies = ap (λ (rs : List (List ℕ)). rs ++ rest) c.deliver.ensures.replies ∙ (append_assoc first given rest ∙ (ap (λ (rs : List (List ℕ)). first ++ rs) left ∙ l.invariant.replies));
      room = omega (arith, c.deliver.ensures.room, l.invariant.room);
      same = c.deliver.ensures.same ∙ l.invariant.same;
      places = c.deliver.ensures.places ∙ l.invariant.places;
    }

pub loop-at-preserved : goal.loop-at-preserved
loop-at-preserved c =
    let l = c.loop-at in
    let inside : l.at < length l.waits.items = omega (arith, c.loop-at-test.true, c.len.ensures, l.waits.ok.0) in
    let has : is_some (pending_of c.index.result.now).reply ≡ false = reply_some c.index.result.now ∙ (sym c.is_some.ensures ∙ c.if-is_some.false) in
    let at : is_some (pending_of (get_or l.waits.items l.at c.index.result.now)).reply ≡ false = rw (← c.index.ensures) has in
    record {
      waits = rw add-one (waits_kept l.waits.items l.at c.index.result.now inside at ∙ l.invariant.waits);
      replies = rw add-one (ap (λ (rs : List (List ℕ)). map reply_bytes l.replies.items ++ rs) (replies_kept l.waits.items l.at c.index.result.now inside at) ∙ l.invariant.replies);
      room = l.invariant.room;
      same = l.invariant.same;
      places = l.invariant.places;
    }

pub returns-clause-waits : goal.returns-clause-waits
returns-clause-waits c =
    let l = c.loop-at in
    let behind : length (map pending_of l.waits.items) ≤ l.at = omega (arith, c.loop-at-test.false, c.len.ensures, l.waits.ok.0, length-map l.waits.items pending_of) in
    sym (swept_all (map pending_of l.waits.items) l.at behind) ∙ l.invariant.waits

pub returns-clause-replies : goal.returns-clause-replies
returns-clause-replies c =
    let l = c.loop-at in
    let behind : length (map pending_of l.waits.items) ≤ l.at = omega (arith, c.loop-at-test.false, c.len.ensures, l.waits.ok.0, length-map l.waits.items pending_of) in
    sym (append-nil (map reply_bytes l.replies.items)) ∙ (ap (λ (rs : List (List ℕ)). map reply_bytes l.replies.items ++ rs) (sym (replies_all (map pending_of l.waits.items) l.at behind)) ∙ l.invariant.replies)

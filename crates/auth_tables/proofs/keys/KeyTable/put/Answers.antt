use Rattle.std.proofs.Common.{◌≡◌, ◌++◌, ◌∷◌, [], arith, length, rules, sym, ap, ◌∙◌}
use Rattle.auth_tables.proofs.MapLemmas.{put_by_bytes}
use Rattle.auth_tables.proofs.PlaceLemmas.{put_line}
use Rattle.auth_tables.proofs.keys.KeyTable.put.Goals as goal

pub invariant_of-self-2 : goal.invariant_of-self-2
invariant_of-self-2 c =
    let changed = c.in_ok-insert.ensures.updates in
    let items : c.push.new.self.items ≡ c.self.inside.lines.items ++ c.args.line ∷ [] = search rules in
    let held = c.self.inside.lines.ok in
    let room = c.in_ok-reserve.ensures.len in
    let at : c.len.result ≡ length c.self.inside.lines.items = omega (arith, c.len.ensures, room, held) in
    put_line _ c.args.line c.self.inside.lines.items c.push.new.self.items c.in_ok-user.user.items _ _ c.len.result c.args.self.now c.self.view_is c.requires items (c.in_ok-user.ensures.items ∙ c.as_slice.ensures.same) at c.self.invariant
    (put_by_bytes (λ key. key.items) c.in_ok-user.user.items _ _ _ changed.1 changed.3)

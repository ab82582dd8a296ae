-- In each case the digits are those of the bytes that the rounds made.
use Rattle.std.proofs.Common.{◌≡◌}
use Rattle.bench_work.specs.Work.{final_bytes}
use Rattle.bench_work.proofs.work.final_digits.Goals as goal

pub returns-in-Encrypt : goal.returns-in-Encrypt
unfolding final_bytes
returns-in-Encrypt g c =
    let made : c.encrypted.result ≡ final_bytes c.args.work c.args.rounds = rw c.in-Encrypt.is c.encrypted.ensures in
    rw (← made) c.encode.ensures

pub returns-in-Seal : goal.returns-in-Seal
unfolding final_bytes
returns-in-Seal g c =
    let made : c.seal_repeatedly.new.text ≡ final_bytes c.args.work c.args.rounds = rw c.in-Seal.is c.seal_repeatedly.ensures in
    rw (← made) c.encode-in-Seal.ensures

pub returns-in-Cram : goal.returns-in-Cram
unfolding final_bytes
returns-in-Cram g c =
    let made : c.answered.result ≡ final_bytes c.args.work c.args.rounds = rw c.in-Cram.is c.answered.ensures in
    rw (← made) c.encode-in-Cram.ensures

pub returns-in-Keyed : goal.returns-in-Keyed
unfolding final_bytes
returns-in-Keyed g c =
    let made : c.keyed.result ≡ final_bytes c.args.work c.args.rounds = rw c.in-Keyed.is c.keyed.ensures in
    rw (← made) c.encode-in-Keyed.ensures

pub returns-in-Password : goal.returns-in-Password
unfolding final_bytes
returns-in-Password g c =
    let made : c.passwords.result ≡ final_bytes c.args.work c.args.rounds = rw c.in-Password.is c.passwords.ensures in
    rw (← made) c.encode-in-Password.ensures

pub returns-in-Tickets : goal.returns-in-Tickets
unfolding final_bytes
returns-in-Tickets g c =
    let made : c.tickets.new.text ≡ final_bytes c.args.work c.args.rounds = rw c.in-Tickets.is c.tickets.ensures in
    rw (← made) c.encode-in-Tickets.ensures

use Rattle.std.proofs.Common.{refl, rules}
use Rattle.sealing.specs.Request.{request_text}
use Rattle.sealing.proofs.RequestLaws.{request_again, request_written}
use Rattle.sealing.proofs.request.write_req.Goals as goal

text : goal.returns-clause-value
unfolding request_text
text c = rw (c.finish.ensures, c.put_name-4.ensures.value, c.put_name-3.ensures.value, c.put-2.ensures.value, c.put_name-2.ensures.value, c.put_name.ensures.value, c.put.ensures.value, c.new-out.ensures) refl

pub returns-clause-value : goal.returns-clause-value
returns-clause-value c = text c

pub returns-clause-read : goal.returns-clause-read
returns-clause-read c =
    rw (text c) (request_again _ _ (request_written c.args.r.now (record {
      authid = c.put_name.ensures.name;
      authdom = c.put_name-2.ensures.name;
      chal = search rules;
      hostid = c.put_name-3.ensures.name;
      uid = c.put_name-4.ensures.name;
    })))

use Rattle.agent_serving.proofs.job.run_job.Goals as goal

pub returns-in-Line-clause-done : goal.returns-in-Line-clause-done
returns-in-Line-clause-done g c = rw c.in-Line.is (record {
  read = c.serve_line-seat.new.source;
  written = c.serve_line-seat.new.sink;
  ends = c.serve_line-seat.ensures.served;
  caused = c.serve_line-seat.ensures.caused;
})

pub returns-in-Asks-clause-done : goal.returns-in-Asks-clause-done
returns-in-Asks-clause-done g c = rw c.in-Asks.is c.serve_asks-seat.ensures.asked

pub returns-in-Prompts-clause-done : goal.returns-in-Prompts-clause-done
returns-in-Prompts-clause-done g c = rw c.in-Prompts.is c.serve_prompts-seat.ensures.prompts

use Rattle.host_metrics.proofs.metrics.Metrics.new.Goals as goal

pub returns : goal.returns
returns c = λ i. record {
  records = 0;
  refusals = c.in_ok-zeros.ensures i;
  submissions = c.in_ok-zeros-2.ensures i;
  starts = c.in_ok-zeros-3.ensures i;
  completions = c.in_ok-zeros-7.ensures i;
  recoveries = c.in_ok-zeros-4.ensures i;
  requeues = c.in_ok-zeros-5.ensures i;
  finishes = c.in_ok-zeros-8.ensures i;
  instructions = c.in_ok-zeros-6.ensures i;
  queues_frozen = c.in_ok-zeros-9.ensures i;
  controllers_frozen = c.in_ok-zeros-10.ensures i;
}

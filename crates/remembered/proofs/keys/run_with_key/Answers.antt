use Rattle.remembered.proofs.Ordering.{set_is_there, put_and_back}
use Rattle.remembered.proofs.keys.run_with_key.Goals as goal

pub put_back-requires : goal.put_back-requires
put_back-requires g c = set_is_there c.args.asker c.args.key c.args.keys.now c.insert.new.self c.in_ok-had.ensures.set

pub returns-then-is_err-clause-same_keys : goal.returns-then-is_err-clause-same_keys
returns-then-is_err-clause-same_keys g c =
    put_and_back c.args.asker c.args.key c.in_ok-had.had c.args.keys.now c.insert.new.self c.put_back.new.keys c.in_ok-had.ensures.had c.in_ok-had.ensures.set
    c.put_back.ensures

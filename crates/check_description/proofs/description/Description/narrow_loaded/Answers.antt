use Rattle.check_description.proofs.KeptNumbers.{loaded_narrowed}
use Rattle.check_description.proofs.description.Description.narrow_loaded.Goals as goal

pub returns-in-Some-clause-means : goal.returns-in-Some-clause-means
returns-in-Some-clause-means c = λ numbers callers m word is same has.
    loaded_narrowed numbers callers c.args.self.now m c.keep.new.self c.in-Some.place c.args.reg c.args.number word is c.in-Some.ensures same has c.keep.ensures

use Rattle.revc_driver.proofs.top.read_text.Goals as goal

pub read_up_to-requires : goal.read_up_to-requires
read_up_to-requires g c = rw c.in-Some.is at c.requires

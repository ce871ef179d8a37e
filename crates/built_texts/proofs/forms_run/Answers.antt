use Rattle.built_texts.proofs.RunLemmas.{run_name, run_constant, run_index, run_slice, run_xor, run_and, run_function, run_apply, run_reg, run_append}
use Rattle.built_texts.proofs.RunLemmas.{run_block}
use Rattle.built_texts.proofs.forms_run.Goals as goal

pub returns : goal.returns
returns c = record {
  name = λ d sc m n e. run_name n e;
  constant = λ d sc b at. run_constant b at;
  index = λ d k sc t bs b i at dot r e le. run_index i at dot r e le;
  slice = λ d k sc t bs i j at to dot r le low few. run_slice i j at to dot r le low few;
  xor_chain = λ d j k sc t ts b bs r rs. run_xor r rs;
  and_chain = λ d j k sc t ts b bs r rs. run_and r rs;
  function_of = λ d sc names body inner at e. run_function names body inner at e;
  applied = λ d j k sc head m r ts f h. run_apply f h;
  registered = λ d k sc ts bs at rs le. run_reg at rs le;
  appended = λ d j k sc t u bs cs at r q le. run_append at r q le;
  in_block = λ d k sc is last m at b. run_block at b;
}
